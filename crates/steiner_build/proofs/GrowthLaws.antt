-- A tree grows by one wire that leads to an FPGA not yet reached; the FPGA that is reached last counts as a
-- terminal.
use Rattle.std.proofs.Common.{◌≡◌, ◌≢◌, ◌⊎◌, ℕ, List, [], ◌∷◌, ◌++◌, refl, sym, ◌∙◌, subst, inl, inr, ⊎_elim}
use Rattle.std.specs.Prelude.{reverse}
use Rattle.std.proofs.lemmas.Bool.Decides.{eqb_tells}
use Rattle.tdm_problem.specs.Board.{Board}
use Rattle.tdm_problem.specs.Walk.{Links, IsWalk}
use Rattle.tdm_problem.proofs.Walks.{Links-sym, IsWalk-wider, IsWalk-append, IsWalk-reverse}
use Rattle.shortest_forest.proofs.BaselineLaws.{ends-same}
use Rattle.steiner_build.specs.Growth.{IsGrown}

-- two numbers are the same, or not
pub same_or_other : (a b : ℕ) → (a ≡ b) ⊎ (a ≢ b)
same_or_other a b = ⊎_elim (λ h. inl h.1) (λ h. inr h.1) (eqb_tells a b)

-- one FPGA is the tree of itself
pub IsGrown-one : (board : Board) (source : ℕ) → IsGrown board (λ _. ⊥) (λ f. f ≡ source) (λ t. t ≡ source)
IsGrown-one board source = record {
  inside = λ t h. h;
  within = λ e a b h links. absurd h;
  joined = λ a b h k. ([], h ∙ sym k);
  needs = λ e h joins. h;
}

-- the same tree under other words
pub IsGrown-same : (board : Board) (wires wires' reached reached' terminals terminals' : ℕ → Type 0)
    → ((e : ℕ) → wires e → wires' e) → ((e : ℕ) → wires' e → wires e)
    → ((f : ℕ) → reached f → reached' f) → ((f : ℕ) → reached' f → reached f)
    → ((t : ℕ) → terminals t → terminals' t) → ((t : ℕ) → terminals' t → terminals t)
    → IsGrown board wires reached terminals → IsGrown board wires' reached' terminals'
IsGrown-same board wires wires' reached reached' terminals terminals' w w' r r' t t' grown = record {
  inside = λ f h. r f (grown.inside f (t' f h));
  within = λ e a b h links. r a (grown.within e a b (w' e h) links);
  joined = λ a b h k.
      let walk = grown.joined a b (r' a h) (r' b k) in
      (walk.0, IsWalk-wider board wires wires' w a walk.0 b walk.1);
  needs = λ e h joins. grown.needs e (w' e h)
      (λ a b ha hb.
      let walk = joins a b (t a ha) (t b hb) in (
        walk.0,
        IsWalk-wider board (λ d. wires' d × (d ≢ e)) (λ d. wires d × (d ≢ e)) (λ d k. (w' d k.0, k.1))
            a walk.0 b walk.1,
      ));
}

module _ (board : Board) (wires reached terminals : ℕ → Type 0) where
  -- a reached FPGA may count as a terminal
  pub IsGrown-tip : (v : ℕ) → reached v → IsGrown board wires reached terminals
      → IsGrown board wires reached (λ t. (t ≡ v) ⊎ terminals t)
  IsGrown-tip v there grown = record {
    inside = λ t h. ⊎_elim (λ same. subst reached (sym same) there) (grown.inside t) h;
    within = grown.within;
    joined = grown.joined;
    needs = λ e h joins. grown.needs e h (λ a b ha hb. joins a b (inr ha) (inr hb));
  }

-- an FPGA y that hangs on x by one wire is drawn to x
abbrev IsDrawn : ℕ → ℕ → ℕ → ℕ → Type 0
IsDrawn x y a a' = ((a ≡ y) × (a' ≡ x)) ⊎ ((a ≢ y) × (a' ≡ a))

drawn : (x y a : ℕ) → (a' : ℕ) × IsDrawn x y a a'
drawn x y a = by (same_or_other a y)
  where
    by : (a ≡ y) ⊎ (a ≢ y) → (a' : ℕ) × IsDrawn x y a a'
    by (inl h) = (x, inl (h, refl))
    by (inr h) = (a, inr (h, refl))

drawn-same : (x y a b a' b' : ℕ) → a ≡ b → IsDrawn x y a a' → IsDrawn x y b b' → a' ≡ b'
drawn-same x y a b a' b' same (inl h) (inl k) = h.1 ∙ sym k.1
drawn-same x y a b a' b' same (inl h) (inr k) = absurd (k.0 (sym same ∙ h.0))
drawn-same x y a b a' b' same (inr h) (inl k) = absurd (h.0 (same ∙ k.0))
drawn-same x y a b a' b' same (inr h) (inr k) = h.1 ∙ same ∙ sym k.1

drawn-other : (x y a a' : ℕ) → a ≢ y → IsDrawn x y a a' → a' ≡ a
drawn-other x y a a' other (inl h) = absurd (other h.0)
drawn-other x y a a' other (inr h) = h.1

drawn-to : (x y a a' : ℕ) → a ≡ y → IsDrawn x y a a' → a' ≡ x
drawn-to x y a a' same (inl h) = h.1
drawn-to x y a a' same (inr h) = absurd (h.0 same)

-- wire e hangs the FPGA y, which is not reached, on x, which is
pub record IsHung (board : Board) (reached : ℕ → Type 0) (e x y : ℕ) : Type 0 where
  pub links : Links board e x y
  pub there : reached x
  pub fresh : ¬ reached y

-- a walk with the new wire, drawn, is a walk without it
module _ (board : Board) (reached some : ℕ → Type 0) (within : (d a b : ℕ) → some d → Links board d a b
    → reached a) (e x y : ℕ) (hung : IsHung board reached e x y) where
  reached-other : (a : ℕ) → reached a → a ≢ y
  reached-other a h same = hung.fresh (subst reached same h)

  drawn-step : (d a m a' m' b' : ℕ) (fs : List ℕ) → some d ⊎ (e ≡ d) → Links board d a m → IsDrawn x y a a'
      → IsDrawn x y m m' → IsWalk board some m' fs b' → (gs : List ℕ) × IsWalk board some a' gs b'
  drawn-step d a m a' m' b' fs (inl there) links da dm walk =
      let a_same : a ≡ a' = sym (drawn-other x y a a' (reached-other a (within d a m there links)) da) in
      let m_same : m ≡ m' =
      sym (drawn-other x y m m' (reached-other m (within d m a there (Links-sym board d a m links)))
      dm) in
      let links' : Links board d a' m' =
      subst (λ (p : ℕ). Links board d p m') a_same (subst (λ (q : ℕ). Links board d a q) m_same links) in
      (d ∷ fs, (there, (m', links', walk)))
  drawn-step d a m a' m' b' fs (inr same) links da dm walk =
      by (ends-same board e x y a m hung.links (subst (λ (c : ℕ). Links board c a m) (sym same) links))
    where
      by : ((x ≡ a) × (y ≡ m)) ⊎ ((x ≡ m) × (y ≡ a)) → (gs : List ℕ) × IsWalk board some a' gs b'
      by (inl h) =
          let a_same : a' ≡ x = drawn-other x y a a' (reached-other a (subst reached h.0 hung.there)) da
          ∙ sym h.0 in
          let m_same : m' ≡ x = drawn-to x y m m' (sym h.1) dm in
          (fs, subst (λ (p : ℕ). IsWalk board some p fs b') (m_same ∙ sym a_same) walk)
      by (inr h) =
          let a_same : a' ≡ x = drawn-to x y a a' (sym h.1) da in
          let m_same : m' ≡ x = drawn-other x y m m' (reached-other m (subst reached h.0 hung.there)) dm
          ∙ sym h.0 in
          (fs, subst (λ (p : ℕ). IsWalk board some p fs b') (m_same ∙ sym a_same) walk)

  drawn-walk : (more : ℕ → Type 0) → ((d : ℕ) → more d → some d ⊎ (e ≡ d)) → (a b a' b' : ℕ) (es : List ℕ)
      → IsWalk board more a es b → IsDrawn x y a a' → IsDrawn x y b b' → (fs : List ℕ)
      × IsWalk board some a' fs b'
  drawn-walk more split a b a' b' [] walk da db = ([], drawn-same x y a b a' b' walk da db)
  drawn-walk more split a b a' b' (d ∷ es) walk da db =
      let m = drawn x y walk.1.0 in
      let rest = drawn-walk more split walk.1.0 b m.0 b' es walk.1.2 m.1 db in
      drawn-step d a walk.1.0 a' m.0 b' rest.0 (split d walk.0) walk.1.1 da m.1 rest.1

-- from the last terminal x the tree grows by wire e to the FPGA y, which counts as a terminal in place of x
module _ (board : Board) (wires reached terminals : ℕ → Type 0) (e x y : ℕ)
    (grown : IsGrown board wires reached (λ t. (t ≡ x) ⊎ terminals t))
    (hung : IsHung board reached e x y) where
  more-wires : ℕ → Type 0
  more-wires d = wires d ⊎ (e ≡ d)

  more-reached : ℕ → Type 0
  more-reached f = (f ≡ y) ⊎ reached f

  from-tip : (a : ℕ) → more-reached a → (es : List ℕ) × IsWalk board more-wires x es a
  unfolding more-wires more-reached
  from-tip a (inl same) = (e ∷ [], (inr refl, (y, hung.links, sym same)))
  from-tip a (inr there) =
      let walk = grown.joined x a hung.there there in
      (walk.0, IsWalk-wider board wires more-wires (λ d h. inl h) x walk.0 a walk.1)

  -- each terminal now stands for one before
  stands-for : (a : ℕ) → (a ≡ x) ⊎ terminals a → (b : ℕ) × ((b ≡ y) ⊎ terminals b) × IsDrawn x y b a
  stands-for a (inl same) = (y, inl refl, inl (refl, same))
  stands-for a (inr there) =
      (a, inr there, inr ((λ same. hung.fresh (subst reached same (grown.inside a (inr there)))), refl))

  needs-old : (d : ℕ) → wires d → ((a b : ℕ) → (a ≡ y) ⊎ terminals a → (b ≡ y) ⊎ terminals b → (es : List ℕ)
      × IsWalk board (λ c. more-wires c × (c ≢ d)) a es b) → ⊥
  unfolding more-wires
  needs-old d there joins = grown.needs d there
      (λ a b ha hb.
      let p = stands-for a ha in
      let q = stands-for b hb in
      let walk = joins p.0 q.0 p.1 q.1 in
      drawn-walk board reached (λ c. wires c × (c ≢ d)) (λ c f g h links. grown.within c f g h.0 links) e x y
      hung (λ c. more-wires c × (c ≢ d))
      (λ c h. ⊎_elim (λ k. inl (k, h.1)) (λ k. inr k) h.0) p.0 q.0 a b walk.0 walk.1 p.2 q.2)

  -- without the new wire no walk leads from y to another FPGA
  cut-off : (b : ℕ) (es : List ℕ) → b ≢ y → IsWalk board (λ c. more-wires c × (c ≢ e)) y es b → ⊥
  unfolding more-wires
  cut-off b [] other walk = other (sym walk)
  cut-off b (d ∷ es) other walk = by walk.0.0
    where
      by : wires d ⊎ (e ≡ d) → ⊥
      by (inl there) = hung.fresh (grown.within d y walk.1.0 there walk.1.1)
      by (inr same) = walk.0.1 (sym same)

  pub IsGrown-more : (s : ℕ) → terminals s → IsGrown board (λ d. wires d ⊎ (e ≡ d)) (λ f. (f ≡ y) ⊎ reached f)
      (λ t. (t ≡ y) ⊎ terminals t)
  unfolding more-wires more-reached
  IsGrown-more s root = record {
    inside = λ t h. ⊎_elim (λ same. inl same) (λ there. inr (grown.inside t (inr there))) h;
    within = λ d a b h links. touched d a b links h;
    joined = λ a b ha hb.
        let back = from-tip a ha in
        let forth = from-tip b hb in (
          reverse back.0 ++ forth.0,
          IsWalk-append board more-wires a (reverse back.0) x forth.0 b
              (IsWalk-reverse board more-wires x back.0 a back.1) forth.1,
        );
    needs = λ d h joins. needed d joins h;
  }
    where
      touched : (d a b : ℕ) → Links board d a b → wires d ⊎ (e ≡ d) → (a ≡ y) ⊎ reached a
      touched d a b links (inl there) = inr (grown.within d a b there links)
      touched d a b links (inr same) = ⊎_elim (λ h. inr (subst reached h.0 hung.there)) (λ h. inl (sym h.1))
          (ends-same board e x y a b hung.links (subst (λ (c : ℕ). Links board c a b) (sym same) links))

      needed : (d : ℕ) → ((a b : ℕ) → (a ≡ y) ⊎ terminals a → (b ≡ y) ⊎ terminals b → (es : List ℕ)
          × IsWalk board (λ c. (wires c ⊎ (e ≡ c)) × (c ≢ d)) a es b) → wires d ⊎ (e ≡ d) → ⊥
      needed d joins (inl there) = needs-old d there joins
      needed d joins (inr same) =
          let walk = joins y s (inl refl) (inr root) in
          let other : s ≢ y = λ h. hung.fresh (subst reached h (grown.inside s (inr root))) in
          cut-off s walk.0 other
          (subst (λ (w : ℕ). IsWalk board (λ c. (wires c ⊎ (e ≡ c)) × (c ≢ w)) y walk.0 s)
          (sym same) walk.1)
