-- A list whose entries are replaced one after another.
use Rattle.std.proofs.Common.{◌≡◌, ℕ, ◌+◌, ◌<◌, ◌≤◌, ◌⊎◌, List, length, get_or, set, refl, sym, ◌∙◌, subst, inl, inr, arith, get_or-set_same, get_or-set_other}
use Rattle.std.proofs.lemmas.Bool.{cases_eq}
use Rattle.std.proofs.lemmas.List.{length-set}

module _ {A : Type 0} (R : A → A → Type 0) (d : A) where
  -- the first n entries are replaced, and the others are as before
  pub record IsReplacedBelow (n : ℕ) (old new : List A) : Type 0 where
    pub count : length new ≡ length old
    pub done : (k : ℕ) → k < n → R (get_or old k d) (get_or new k d)
    pub left : (k : ℕ) → n ≤ k → get_or new k d ≡ get_or old k d

  pub replaced_none : (old : List A) → IsReplacedBelow 0 old old
  replaced_none old = record { count = refl; done = λ k below. absurd (omega arith); left = λ k past. refl }

  pub replaced_more : (n : ℕ) (old new : List A) (x : A) → n < length new → IsReplacedBelow n old new
      → R (get_or new n d) x → IsReplacedBelow (n + 1) old (set new n x)
  replaced_more n old new x there so_far next = record {
    count = length-set new n x ∙ so_far.count;
    done = λ k below. go k (cases_eq k n) below;
    left = λ k past. get_or-set_other new n k x d (λ same. absurd (omega arith))
        ∙ so_far.left k (omega arith);
  }
    where
      go : (k : ℕ) → (k ≡ n) ⊎ (k ≡ n → ⊥) → k < n + 1 → R (get_or old k d) (get_or (set new n x) k d)
      go k (inl same) below =
          subst (λ (j : ℕ). R (get_or old j d) (get_or (set new n x) j d)) (sym same)
          (subst (λ (y : A). R (get_or old n d) y) (sym (get_or-set_same new n x d there))
          (subst (λ (y : A). R y x) (so_far.left n (omega arith)) next))
      go k (inr other) below =
          subst (λ (y : A). R (get_or old k d) y) (sym (get_or-set_other new n k x d other))
          (so_far.done k (omega arith))
