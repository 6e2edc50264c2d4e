-- Numbers are marked as they are listed.
use Rattle.std.proofs.Common.{◌≡◌, ◌≢◌, ℕ, ◌<◌, ◌≤◌, ◌⊎◌, Bool, true, false, Option, None, Some, List, [], ◌∷◌, ◌++◌, length, get_or, set, replicate, get_or-set_same, get_or-set_other, append_assoc, sym, ap, ◌∙◌, subst, inl, inr, ⊎_elim, arith}
use Rattle.std.specs.Prelude.{AllPairs, Contains, slice_get}
use Rattle.std.proofs.lemmas.Option.{slice_get-get_or}
use Rattle.std.proofs.lemmas.Bool.{cases_eq, cases_lt, false≢true}
use Rattle.std.proofs.lemmas.List.{length-set, get_or-replicate, get_or_past, get_or_default, length-replicate, append-nil}
use Rattle.std.proofs.lemmas.List.Quantifiers.{all_pairs_push}
use Rattle.std.proofs.lemmas.List.Elements.{Contains-append_left, Contains-push, Contains-push_cases, All-nil, All-push}
use Rattle.shortest_forest.specs.Arcs.{IsGoal}
use Rattle.steiner_build.specs.Joining.{HasNoGoals}
use Rattle.steiner_build.proofs.JoiningLaws.{goal-or-not}
use Rattle.cert_checker.specs.MarkedLists.{AreMarked, IsAdded, IsLonger}

-- nothing is listed where nothing is marked
pub AreMarked-none : (listed : List ℕ) (marks : List Bool) → listed ≡ [] → HasNoGoals marks
    → AreMarked listed marks
AreMarked-none listed marks empty none = subst (λ (xs : List ℕ). AreMarked xs marks) (sym empty) (record {
  marked = λ f. (λ on. goal-or-not marks f on (none f), λ there. absurd (omega (arith, there.1)));
  there = All-nil (λ x. x < length marks);
  distinct = λ i j x before inside. absurd (omega (arith, inside));
})

pub none-replicate : (n : ℕ) → HasNoGoals (replicate n false)
none-replicate n f = ⊎_elim
    (λ (below : f < n). get_or-replicate n f false false below)
    (λ (past : n ≤ f). get_or_past (replicate n false) f false (omega (
      arith,
      past,
      length-replicate n false,
    )))
    (cases_lt f n)

-- a number that was not marked is listed
pub AreMarked-more : (listed : List ℕ) (marks : List Bool) (x : ℕ) → x < length marks
    → get_or marks x false ≡ false → AreMarked listed marks → AreMarked (listed ++ x ∷ []) (set marks x true)
AreMarked-more listed marks x below off are = record {
  marked = λ f. go f (cases_eq f x);
  there = All-push (λ y. y < length (set marks x true)) listed x (λ k d inside. omega (
    arith,
    are.there k d inside,
    length-set marks x true,
  )) (omega (arith, below, length-set marks x true));
  distinct = pairs;
}
  where
    go : (f : ℕ) → (f ≡ x) ⊎ (f ≡ x → ⊥) → (IsGoal (set marks x true) f → Contains (listed ++ x ∷ []) f)
        × (Contains (listed ++ x ∷ []) f → IsGoal (set marks x true) f)
    go f (inl same) = (
      λ on. subst (λ (k : ℕ). Contains (listed ++ x ∷ []) k) (sym same) (Contains-push listed x),
      λ there. subst (λ (k : ℕ). IsGoal (set marks x true) k) (sym same)
          (get_or-set_same marks x true false below),
    )
    go f (inr other) =
        let kept : get_or (set marks x true) f false ≡ get_or marks f false =
        get_or-set_other marks x f true false other in (
          λ on. Contains-append_left listed (x ∷ []) f ((are.marked f).0 (sym kept ∙ on)),
          λ there. ⊎_elim (λ before. kept ∙ (are.marked f).1 before) (λ same. absurd (other (sym same)))
              (Contains-push_cases listed x f there),
        )

    pairs : AllPairs (λ y z. y ≢ z) (listed ++ x ∷ [])
    pairs = all_pairs_push (λ y z. y ≢ z) listed x are.distinct (λ k d inside same.
        let there : Contains listed x = (k, inside, get_or_default listed k x d inside ∙ same) in
        absurd (false≢true (sym off ∙ (are.marked x).1 there)))

-- a list that something was added to is longer, and has it
pub added-longer : (x : ℕ) (old new : List ℕ) → IsAdded x old new → IsLonger old new
added-longer x old new (inl same) = ([], same.0 ∙ sym (append-nil old))
added-longer x old new (inr more) = (x ∷ [], more)

pub added-there : (x : ℕ) (old new : List ℕ) → IsAdded x old new → Contains new x
added-there x old new (inl same) = subst (λ (xs : List ℕ). Contains xs x) (sym same.0) same.1
added-there x old new (inr more) = subst (λ (xs : List ℕ). Contains xs x) (sym more) (Contains-push old x)

pub longer-trans : (a b c : List ℕ) → IsLonger a b → IsLonger b c → IsLonger a c
longer-trans a b c first second = (
  first.0 ++ second.0,
  second.1 ∙ ap (λ (xs : List ℕ). xs ++ second.0) first.1
      ∙ append_assoc a first.0 second.0,
)

pub longer-same : (a : List ℕ) → IsLonger a a
longer-same a = ([], sym (append-nil a))

pub longer-contains : (a b : List ℕ) (x : ℕ) → IsLonger a b → Contains a x → Contains b x
longer-contains a b x longer there = subst (λ (xs : List ℕ). Contains xs x) (sym longer.1)
    (Contains-append_left a longer.0 x there)

-- where a list has no number any more
pub past-end : (xs : List ℕ) (i : ℕ) → slice_get xs i ≡ None → length xs ≤ i
past-end xs i none = ⊎_elim
    (λ (below : i < length xs). absurd (some-none (get_or xs i 0) (sym (slice_get-get_or xs i 0 below)
    ∙ none)))
    (λ (past : length xs ≤ i). past)
    (cases_lt i (length xs))
  where
    has : Option ℕ → Bool
    has None = false
    has (Some x) = true

    some-none : (x : ℕ) → Some x ≡ None → ⊥
    some-none x same = false≢true (sym (ap has same))
