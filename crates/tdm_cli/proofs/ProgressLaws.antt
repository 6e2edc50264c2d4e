-- What one more net adds to the baseline so far.
use Rattle.std.proofs.Common.{◌≡◌, ◌⊎◌, ◌↔◌, ℕ, zero, suc, ◌+◌, ◌<◌, ◌≤◌, List, [], ◌∷◌, ◌++◌, length, slice_index, refl, sym, ap, subst, ◌∙◌, inl, inr, arith, Contains, length-append, zero-add}
use Rattle.std.specs.Prelude.{sum_by}
use Rattle.std.specs.List.Sorted.{IsStrictlyIncreasing}
use Rattle.std.proofs.lemmas.List.{get_or_append_left, get_or_default}
use Rattle.std.proofs.lemmas.List.Sums.{sum_by-append}
use Rattle.std.proofs.lemmas.List.Elements.{Contains-append_left, Contains-append_right, Contains-append_cases}
use Rattle.std.proofs.Math.Seq.{get_or-append_seam}
use Rattle.std.proofs.Math.Nat.{eq-or-lt_of_le}
use Rattle.tdm_problem.specs.Board.{Board}
use Rattle.tdm_problem.specs.Walk.{IsConnectable}
use Rattle.tdm_problem.specs.Legal.{terminals_of, source_of}
use Rattle.tdm_problem.specs.Trees.{tree_of}
use Rattle.shortest_forest.specs.Baseline.{IsBaseTree}
use Rattle.tdm_cli.specs.declared.baseline.TheConstants.{MAX_USES}
use Rattle.tdm_problem.specs.Limits.{most_nets}
use Rattle.tdm_cli.specs.Progress.{AreBasedSoFar, IsProgress}

-- a number below the next is below this one, or is this one
split-below : (k n : ℕ) → k < n + 1 → (k < n) ⊎ (k ≡ n)
split-below k n h = by (eq-or-lt_of_le {n = k} {m = n} (omega (arith, h)))
  where
    by : (k ≡ n) ⊎ (k < n) → (k < n) ⊎ (k ≡ n)
    by (inl same) = inr same
    by (inr below) = inl below

-- a number behind all others keeps a list rising
rising-more : (xs : List ℕ) (n : ℕ) → IsStrictlyIncreasing xs → ((x : ℕ) → Contains xs x → x < n)
    → IsStrictlyIncreasing (xs ++ n ∷ [])
rising-more xs n rising below k h =
    by (split-below (k + 1) (length xs) (omega (arith, length-append xs (n ∷ []), h)))
  where
    by : (k + 1 < length xs) ⊎ (k + 1 ≡ length xs) → slice_index (xs ++ n ∷ []) k
        < slice_index (xs ++ n ∷ []) (k + 1)
    by (inl inside) = rw (
      get_or_append_left xs (n ∷ []) 0 k (omega arith),
      get_or_append_left xs (n ∷ []) 0 (k + 1) inside,
    ) (rising k inside)
    by (inr last) = rw (get_or_append_left xs (n ∷ []) 0 k (omega arith), last, get_or-append_seam xs n [] 0)
        (below (slice_index xs k) (k, omega arith, get_or_default xs k (slice_index xs k) 0 (omega arith)))

only-last : (n k : ℕ) → Contains (n ∷ []) k → n ≡ k
only-last n k (zero, h, e) = e
only-last n k (suc j, h, e) = absurd (omega (arith, h))

has-last : (n : ℕ) → Contains (n ∷ []) n
has-last n = (0, omega arith, refl)

not-empty : (xs : List ℕ) (n : ℕ) → xs ++ n ∷ [] ≡ [] → ⊥
not-empty [] n e = cc
not-empty (x ∷ xs) n e = cc

module _ (board : Board) (n : ℕ) (trees : List (List ℕ)) (used : ℕ) (missing : List ℕ)
    (so_far : IsProgress board n trees used missing) where
  -- no wires join the next net
  pub progress-missing : ¬ IsConnectable board (terminals_of board n)
      → IsProgress board (n + 1) trees used (missing ++ n ∷ [])
  progress-missing apart = record {
    limit = so_far.limit;
    few = omega (arith, so_far.few);
    rising = rising-more missing n so_far.rising (λ x h. ((so_far.exact x).0 h).0);
    exact = λ k. (to k, from k);
    based = λ empty. absurd (not-empty missing n empty);
  }
    where
      to : (k : ℕ) → Contains (missing ++ n ∷ []) k → (k < n + 1)
          × ¬ IsConnectable board (terminals_of board k)
      to k h = by (Contains-append_cases missing (n ∷ []) k h)
        where
          by : Contains missing k ⊎ Contains (n ∷ []) k → (k < n + 1)
              × ¬ IsConnectable board (terminals_of board k)
          by (inl earlier) = let old = (so_far.exact k).0 earlier in (omega (arith, old.0), old.1)
          by (inr last) = subst (λ j. (j < n + 1) × ¬ IsConnectable board (terminals_of board j))
              (only-last n k last) (omega arith, apart)

      from : (k : ℕ) → (k < n + 1) × ¬ IsConnectable board (terminals_of board k)
          → Contains (missing ++ n ∷ []) k
      from k h = by (split-below k n h.0)
        where
          by : (k < n) ⊎ (k ≡ n) → Contains (missing ++ n ∷ []) k
          by (inl below) = Contains-append_left missing (n ∷ []) k ((so_far.exact k).1 (below, h.1))
          by (inr same) = subst (Contains (missing ++ n ∷ [])) (sym same)
              (Contains-append_right missing (n ∷ []) n (has-last n))

  module _ (joined : IsConnectable board (terminals_of board n)) where
    exact-next : (k : ℕ) → Contains missing k ↔ ((k < n + 1) × ¬ IsConnectable board (terminals_of board k))
    exact-next k = (λ h. let old = (so_far.exact k).0 h in (omega (arith, old.0), old.1), from)
      where
        from : (k < n + 1) × ¬ IsConnectable board (terminals_of board k) → Contains missing k
        from h = by (split-below k n h.0)
          where
            by : (k < n) ⊎ (k ≡ n) → Contains missing k
            by (inl below) = (so_far.exact k).1 (below, h.1)
            by (inr same) = absurd
                (h.1 (subst (λ j. IsConnectable board (terminals_of board j)) (sym same) joined))

    module _ (tree : List ℕ) (base : IsBaseTree board (source_of board n) (terminals_of board n) tree) where
      each-next : (all : List (List ℕ)) → length all ≡ n
          → ((k : ℕ) → k < n → IsBaseTree board (source_of board k) (terminals_of board k) (tree_of all k))
          → (k : ℕ) → k < n + 1 → IsBaseTree board (source_of board k) (terminals_of board k)
          (tree_of (all ++ tree ∷ []) k)
      each-next all count each k h = by (split-below k n h)
        where
          by : (k < n) ⊎ (k ≡ n) → IsBaseTree board (source_of board k) (terminals_of board k)
              (tree_of (all ++ tree ∷ []) k)
          by (inl below) = subst (IsBaseTree board (source_of board k) (terminals_of board k))
              (sym (get_or_append_left all (tree ∷ []) [] k (omega (arith, count)))) (each k below)
          by (inr same) =
              let there : tree_of (all ++ tree ∷ []) n ≡ tree = ap (tree_of (all ++ tree ∷ [])) (sym count)
              ∙ get_or-append_seam all tree [] [] in
              subst (λ j. IsBaseTree board (source_of board j) (terminals_of board j)
              (tree_of (all ++ tree ∷ []) j)) (sym same)
              (subst (IsBaseTree board (source_of board n) (terminals_of board n)) (sym there) base)

      joined-next : (so : AreBasedSoFar board n trees used) → (k : ℕ) → k < n + 1
          → IsConnectable board (terminals_of board k)
      joined-next so k h = by (split-below k n h)
        where
          by : (k < n) ⊎ (k ≡ n) → IsConnectable board (terminals_of board k)
          by (inl below) = so.joined k below
          by (inr same) = subst (λ j. IsConnectable board (terminals_of board j)) (sym same) joined

      total-next : (all : List (List ℕ)) → sum_by length (all ++ tree ∷ []) ≡ sum_by length all + length tree
      total-next all = sum_by-append length all (tree ∷ [])
          ∙ ap (λ s. sum_by length all + s) (zero-add (length tree))

      based-next : (new_trees : List (List ℕ)) (new_used : ℕ) → (so : AreBasedSoFar board n trees used)
          → (new_used ≤ MAX_USES → (new_used ≡ sum_by length so.all + length tree)
          × (new_trees ≡ so.all ++ tree ∷ []))
          → (MAX_USES < new_used → MAX_USES < sum_by length so.all + length tree)
          → AreBasedSoFar board (n + 1) new_trees new_used
      based-next new_trees new_used so within over = record {
        all = so.all ++ tree ∷ [];
        count = omega (arith, length-append so.all (tree ∷ []), so.count);
        each = each-next so.all so.count so.each;
        joined = joined-next so;
        within = λ h. ((within h).0 ∙ sym (total-next so.all), (within h).1);
        over = λ h. subst (λ t. MAX_USES < t) (sym (total-next so.all)) (over h);
      }

      -- the next tree does not count, where a net is missing or the limit is passed
      pub progress-past : (missing ≡ [] → MAX_USES < used) → IsProgress board (n + 1) trees used missing
      progress-past past = record {
        limit = so_far.limit;
        few = omega (arith, so_far.few);
        rising = so_far.rising;
        exact = exact-next;
        based = λ empty. let so = so_far.based empty in let high = past empty in
            based-next trees used so (λ low. absurd (omega (arith, low, high))) (λ h. let o = so.over h in
            omega (arith, o));
      }

      -- the next tree passes the limit
      pub progress-over : used ≤ MAX_USES → MAX_USES < used + length tree
          → IsProgress board (n + 1) trees (used + length tree) missing
      progress-over low high = record {
        limit = so_far.limit;
        few = omega (arith, so_far.few);
        rising = so_far.rising;
        exact = exact-next;
        based = λ empty. let so = so_far.based empty in
            based-next trees (used + length tree) so (λ h. absurd (omega (arith, h, high))) (λ h. let w =
            (so.within low).0 in omega (arith, w, high));
      }

      -- the next tree is kept
      pub progress-kept : used ≤ MAX_USES
          → IsProgress board (n + 1) (trees ++ tree ∷ []) (used + length tree) missing
      progress-kept low = record {
        limit = so_far.limit;
        few = omega (arith, so_far.few, length-append trees (tree ∷ []));
        rising = so_far.rising;
        exact = exact-next;
        based = λ empty. let so = so_far.based empty in let w = so.within low in
            based-next (trees ++ tree ∷ []) (used + length tree) so (λ h. (
              ap (λ u. u + length tree) w.0,
              ap (λ t. t ++ tree ∷ []) w.1,
            )) (λ h. let e = w.0 in omega (arith, e, h));
      }

-- the first net of none: nothing is missing and nothing is used
pub progress-none : (board : Board) → length board.nets ≤ most_nets → IsProgress board 0 [] 0 []
progress-none board limit = record {
  limit = limit;
  few = omega arith;
  rising = λ k h. absurd (omega (arith, h));
  exact = λ n. (λ h. absurd (omega (arith, h.1)), λ h. absurd (omega (arith, h.0)));
  based = λ empty. record {
    all = [];
    count = refl;
    each = λ n h. absurd (omega (arith, h));
    joined = λ n h. absurd (omega (arith, h));
    within = λ h. (refl, refl);
    over = λ h. absurd (omega (arith, h));
  };
}
