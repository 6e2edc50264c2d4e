-- What is left of the lengths of wires.
use Rattle.std.proofs.Common.{◌≡◌, ℕ, ◌^◌, ◌≤◌, ◌<◌, ◌⊎◌, Bool, true, false, cond, List, [], ◌∷◌, ◌++◌, length, get_or, set, get_or-set_same, get_or-set_other, subst, ◌+◌, inl, inr, ⊎_elim, refl, ap, ◌∙◌, sym, arith}
use Rattle.std.specs.Prelude.{slice_index, nat_lt, All}
use Rattle.std.proofs.lemmas.Bool.{cases_eq, cases_lt, false≢true}
use Rattle.std.proofs.lemmas.List.{get_or_past, get_or_default, length-set, ext_get_or}
use Rattle.std.proofs.lemmas.List.Elements.{Contains-append_left, All-nil, All-push}
use Rattle.shortest_forest.specs.Arcs.{IsGoal}
use Rattle.cert_checker.specs.Growing.{arcs_of, AreListed}
use Rattle.cert_checker.specs.MarkedLists.{IsAdded}

pub arcs-small : (up down : List ℕ) → ((e : ℕ) → slice_index up e ≤ 2 ^ 51)
    → ((e : ℕ) → slice_index down e ≤ 2 ^ 51) → (e from to : ℕ) → arcs_of up down e from to ≤ 2 ^ 51
arcs-small up down up_small down_small e from to = go (nat_lt from to) refl
  where
    go : (b : Bool) → nat_lt from to ≡ b → arcs_of up down e from to ≤ 2 ^ 51
    go true is = omega (
      arith,
      up_small e,
      ap (λ (t : Bool). cond t (slice_index up e) (slice_index down e)) is,
    )
    go false is = omega (
      arith,
      down_small e,
      ap (λ (t : Bool). cond t (slice_index up e) (slice_index down e)) is,
    )

pub all-small : (xs : List ℕ) (most : ℕ) → All (λ x. x ≤ most) xs → (e : ℕ) → slice_index xs e ≤ most
all-small xs most all e = ⊎_elim
    (λ (below : e < length xs). all e 0 below)
    (λ (past : length xs ≤ e). omega (arith, get_or_past xs e 0 past))
    (cases_lt e (length xs))

-- what is a goal is one of so many FPGAs
pub goals-inside : (goals : List Bool) (f : ℕ) → IsGoal goals f → f < length goals
goals-inside goals f is = go (cases_lt f (length goals))
  where
    go : (f < length goals) ⊎ (length goals ≤ f) → f < length goals
    go (inl below) = below
    go (inr past) = absurd (false≢true (sym (get_or_past goals f false past) ∙ is))

-- what is listed stays listed where more is
listed-more : (lengths up down listed : List ℕ) (e : ℕ) → e < length up → AreListed lengths up down listed
    → AreListed lengths up down (listed ++ e ∷ [])
listed-more lengths up down listed e below are = record {
  up_count = are.up_count;
  down_count = are.down_count;
  there = All-push (λ d. d < length lengths) listed e are.there (omega (arith, below, are.up_count));
  up_short = are.up_short;
  down_short = are.down_short;
  whole = λ d. ⊎_elim (λ whole. inl whole) (λ there. inr (Contains-append_left listed (e ∷ []) d there))
      (are.whole d);
}

pub listed-added : (lengths up down listed added : List ℕ) (e : ℕ) → e < length up → IsAdded e listed added
    → AreListed lengths up down listed → AreListed lengths up down added
listed-added lengths up down listed added e below (inl same) are =
    subst (λ (xs : List ℕ). AreListed lengths up down xs) (sym same.0) are
listed-added lengths up down listed added e below (inr more) are =
    subst (λ (xs : List ℕ). AreListed lengths up down xs) (sym more)
    (listed-more lengths up down listed e below are)

-- the rests are whole again, but for wires listed later
pub record AreRestored (lengths up down listed : List ℕ) (k : ℕ) : Type 0 where
  pub up_count : length up ≡ length lengths
  pub down_count : length down ≡ length lengths
  pub there : All (λ e. e < length lengths) listed
  pub whole : (e : ℕ) → ((get_or up e 0 ≡ get_or lengths e 0) × (get_or down e 0 ≡ get_or lengths e 0))
      ⊎ ((i : ℕ) × (k ≤ i) × (i < length listed) × (get_or listed i 0 ≡ e))

pub AreRestored-none : (lengths up down listed : List ℕ) → AreListed lengths up down listed
    → AreRestored lengths up down listed 0
AreRestored-none lengths up down listed are = record {
  up_count = are.up_count;
  down_count = are.down_count;
  there = are.there;
  whole = λ e. ⊎_elim (λ whole. inl whole) (λ there. inr (
    there.0,
    omega arith,
    there.1,
    get_or_default listed there.0 0 e there.1 ∙ there.2,
  )) (are.whole e);
}

pub AreRestored-more : (lengths up down listed : List ℕ) (k : ℕ) → k < length listed
    → AreRestored lengths up down listed k →
    AreRestored lengths (set up (get_or listed k 0) (get_or lengths (get_or listed k 0) 0))
    (set down (get_or listed k 0) (get_or lengths (get_or listed k 0) 0)) listed (k + 1)
AreRestored-more lengths up down listed k inside are = record {
  up_count = length-set up e (get_or lengths e 0) ∙ are.up_count;
  down_count = length-set down e (get_or lengths e 0) ∙ are.down_count;
  there = are.there;
  whole = λ d. go d (cases_eq d e);
}
  where
    e : ℕ
    e = get_or listed k 0

    below : e < length lengths
    below = are.there k 0 inside

    go : (d : ℕ) → (d ≡ e) ⊎ (d ≡ e → ⊥) → ((get_or (set up e (get_or lengths e 0)) d 0 ≡ get_or lengths d 0)
        × (get_or (set down e (get_or lengths e 0)) d 0 ≡ get_or lengths d 0))
        ⊎ ((i : ℕ) × (k + 1 ≤ i) × (i < length listed) × (get_or listed i 0 ≡ d))
    go d (inl same) = inl (
      subst (λ (x : ℕ). get_or (set up e (get_or lengths e 0)) x 0 ≡ get_or lengths x 0) (sym same)
          (get_or-set_same up e (get_or lengths e 0) 0 (omega (arith, below, are.up_count))),
      subst (λ (x : ℕ). get_or (set down e (get_or lengths e 0)) x 0 ≡ get_or lengths x 0) (sym same)
          (get_or-set_same down e (get_or lengths e 0) 0 (omega (arith, below, are.down_count))),
    )
    go d (inr other) = ⊎_elim
        (λ whole. inl (
          get_or-set_other up e d (get_or lengths e 0) 0 other ∙ whole.0,
          get_or-set_other down e d (get_or lengths e 0) 0 other ∙ whole.1,
        ))
        (λ left. inr (left.0, after left.0 left.1 left.3 (cases_lt k left.0), left.2, left.3))
        (are.whole d)
      where
        after : (i : ℕ) → k ≤ i → get_or listed i 0 ≡ d → (k < i) ⊎ (i ≤ k) → k + 1 ≤ i
        after i more is (inl less) = omega (arith, less)
        after i more is (inr not) =
            let same : i ≡ k = omega (arith, more, not) in
            absurd (other (sym is ∙ ap (λ (x : ℕ). get_or listed x 0) same))

module _ (lengths up down listed : List ℕ) (k : ℕ) (past : length listed ≤ k)
    (are : AreRestored lengths up down listed k) where
  all-whole : (e : ℕ) → (get_or up e 0 ≡ get_or lengths e 0) × (get_or down e 0 ≡ get_or lengths e 0)
  all-whole e = ⊎_elim (λ whole. whole) (λ left. absurd (omega (arith, past, left.1, left.2))) (are.whole e)

  pub restored-up : up ≡ lengths
  restored-up = ext_get_or 0 up lengths are.up_count (λ e inside. (all-whole e).0)

  pub restored-down : down ≡ lengths
  restored-down = ext_get_or 0 down lengths are.down_count (λ e inside. (all-whole e).1)

-- whole lengths, of which no wire is listed
pub AreListed-whole : (lengths up down listed : List ℕ) → up ≡ lengths → down ≡ lengths → listed ≡ []
    → AreListed lengths up down listed
AreListed-whole lengths up down listed is_up is_down none = record {
  up_count = ap length is_up;
  down_count = ap length is_down;
  there = subst (λ (xs : List ℕ). All (λ e. e < length lengths) xs) (sym none)
      (All-nil (λ e. e < length lengths));
  up_short = λ e. omega (arith, ap (λ (xs : List ℕ). slice_index xs e) is_up);
  down_short = λ e. omega (arith, ap (λ (xs : List ℕ). slice_index xs e) is_down);
  whole = λ e. inl (
    ap (λ (xs : List ℕ). slice_index xs e) is_up,
    ap (λ (xs : List ℕ). slice_index xs e) is_down,
  );
}
