-- Wires that join FPGAs, each turned so that it leads nearer to a root.
use Rattle.std.proofs.Common.{◌≡◌, ℕ, zero, suc, ◌+◌, ◌<◌, ◌≤◌, ◌⊎◌, List, [], ◌∷◌, Option, None, Some, length, refl, sym, ap, ◌∙◌, subst, inl, inr, ⊎_elim, arith}
use Rattle.std.specs.Prelude.{Contains, slice_get}
use Rattle.std.proofs.lemmas.Bool.{cases_eq, cases_lt}
use Rattle.std.proofs.lemmas.Option.{none-some, same_Some, slice_get_cases}
use Rattle.tdm_problem.specs.declared.wire.Wire.{Wire}
use Rattle.tdm_problem.specs.Board.{Board}
use Rattle.tdm_problem.specs.Walk.{Links, IsWalk}
use Rattle.tdm_problem.proofs.Walks.{Links-ends, Links-sym}

-- 0 where it is so, else 1
abbrev pub count : {P : Type 0} → P ⊎ ¬ P → ℕ
count (inl is) = 0
count (inr not) = 1

count-yes : {P : Type 0} → (d : P ⊎ ¬ P) → P → count d ≡ 0
count-yes (inl is) so = refl
count-yes (inr not) so = absurd (not so)

count-no : {P : Type 0} → (d : P ⊎ ¬ P) → ¬ P → count d ≡ 1
count-no (inl is) none = absurd (none is)
count-no (inr not) none = refl

count-le : {P : Type 0} → (d : P ⊎ ¬ P) → count d ≤ 1
count-le (inl is) = omega arith
count-le (inr not) = omega arith

pub decide-either : {P Q : Type 0} → P ⊎ ¬ P → Q ⊎ ¬ Q → (P ⊎ Q) ⊎ ¬ (P ⊎ Q)
decide-either (inl p) q = inl (inl p)
decide-either (inr none) (inl q) = inl (inr q)
decide-either (inr none) (inr neither) = inr (λ either. ⊎_elim none neither either)

pub decide-both : {P Q : Type 0} → P ⊎ ¬ P → Q ⊎ ¬ Q → (P × Q) ⊎ ¬ (P × Q)
decide-both (inl p) (inl q) = inl (p, q)
decide-both (inr none) q = inr (λ both. none both.0)
decide-both (inl p) (inr none) = inr (λ both. none both.1)

-- the first where the one number is less, else the second
abbrev pub pick : {m n : ℕ} → (m < n) ⊎ (n ≤ m) → ℕ → ℕ → ℕ
pick (inl less) x y = x
pick (inr not) x y = y

module _ (board : Board) where
  -- a wire of the list leads from FPGA v to one of these
  abbrev pub IsNext : (ℕ → Type 0) → List ℕ → ℕ → Type 0
  IsNext P es v = (e : ℕ) × Contains es e × ((u : ℕ) × Links board e v u × P u)

  abbrev pub LeadsTo : (ℕ → Type 0) → ℕ → ℕ → Type 0
  LeadsTo P e v = (u : ℕ) × Links board e v u × P u

  module _ (P : ℕ → Type 0) (decide : (v : ℕ) → P v ⊎ ¬ P v) (v : ℕ) where
    -- one of the two ways over a wire
    abbrev pub IsEitherWay : Wire → Type 0
    IsEitherWay wire = ((wire.a ≡ v) × P wire.b) ⊎ ((wire.b ≡ v) × P wire.a)

    pub decide-ways : (wire : Wire) → IsEitherWay wire ⊎ ¬ IsEitherWay wire
    decide-ways wire = decide-either
        (decide-both (cases_eq wire.a v) (decide wire.b))
        (decide-both (cases_eq wire.b v) (decide wire.a))

    leads-from_way : (e : ℕ) (wire : Wire) → slice_get board.wires e ≡ Some wire → IsEitherWay wire
        → LeadsTo P e v
    leads-from_way e wire is (inl forth) =
        (wire.b, record { wire = wire; is = is; ends = inl (forth.0, refl) }, forth.1)
    leads-from_way e wire is (inr back) = (
      wire.a,
      record { wire = wire; is = is; ends = inr (refl, back.0) },
      back.1,
    )

    way-from_leads : (e : ℕ) (wire : Wire) → slice_get board.wires e ≡ Some wire → LeadsTo P e v
        → IsEitherWay wire
    way-from_leads e wire is (u, links, there) =
        let same : links.wire ≡ wire = same_Some links.wire wire (sym links.is ∙ is) in
        let at : IsEitherWay links.wire = ⊎_elim
        (λ forth. inl (forth.0, subst P (sym forth.1) there))
        (λ back. inr (back.1, subst P (sym back.0) there))
        links.ends in
        subst IsEitherWay same at

    pub decide-leads : (e : ℕ) → LeadsTo P e v ⊎ ¬ LeadsTo P e v
    decide-leads e = elim (slice_get_cases board.wires e).1 [
      | inl (wire, inside, is, at) ↦ ⊎_elim
          (λ (way : IsEitherWay wire). inl (leads-from_way e wire is way))
          (λ (none : ¬ IsEitherWay wire). inr (λ leads. none (way-from_leads e wire is leads)))
          (decide-ways wire)
      | inr (past, none) ↦ inr (λ leads. none-some leads.1.wire (sym none ∙ leads.1.is))
    ]

    pub decide-next : (es : List ℕ) → IsNext P es v ⊎ ¬ IsNext P es v
    decide-next [] = inr (λ next. omega (arith, next.1.1))
    decide-next (e ∷ es) = go (decide-leads e) (decide-next es)
      where
        go : LeadsTo P e v ⊎ ¬ LeadsTo P e v → IsNext P es v ⊎ ¬ IsNext P es v → IsNext P (e ∷ es) v
            ⊎ ¬ IsNext P (e ∷ es) v
        go (inl leads) rest = inl (e, (0, omega arith, refl), leads)
        go (inr none) (inl next) = inl (next.0, (suc next.1.0, omega (arith, next.1.1), next.1.2), next.2)
        go (inr none) (inr neither) = inr (λ next. other next)
          where
            other : IsNext P (e ∷ es) v → ⊥
            other (d, (zero, inside, is), leads) = none (subst (λ (w : ℕ). LeadsTo P w v) (sym is) leads)
            other (d, (suc k, inside, is), leads) = neither (d, (k, omega (arith, inside), is), leads)

  module _ (wires : List ℕ) (root : ℕ) where
    -- so many of the wires lead from FPGA v to the root, at most
    abbrev pub IsNear : ℕ → ℕ → Type 0
    IsNear zero v = v ≡ root
    IsNear (suc k) v = IsNear k v ⊎ IsNext (IsNear k) wires v

    pub decide-near : (k v : ℕ) → IsNear k v ⊎ ¬ IsNear k v
    decide-near zero v = cases_eq v root
    decide-near (suc k) v = decide-either (decide-near k v) (decide-next (IsNear k) (decide-near k) v wires)

    -- how many wires lead from FPGA v to the root, at most k
    abbrev pub rank : (k v : ℕ) → ℕ
    rank zero v = 0
    rank (suc k) v = rank k v + count (decide-near k v)

    rank-le : (k v : ℕ) → rank k v ≤ k
    rank-le zero v = omega arith
    rank-le (suc k) v = omega (arith, rank-le k v, count-le (decide-near k v))

    rank-far : (k v : ℕ) → ¬ IsNear k v → rank (suc k) v ≡ suc k
    rank-far zero v far = omega (arith, count-no (decide-near zero v) far)
    rank-far (suc k) v far =
        omega (arith, rank-far k v (λ near. far (inl near)), count-no (decide-near (suc k) v) far)

    -- one of the wires leads from FPGA v nearer to the root
    pub record LeadsNearer (k v : ℕ) : Type 0 where
      pub wire : ℕ
      pub listed : Contains wires wire
      pub to : ℕ
      pub links : Links board wire v to
      pub nearer : rank k to < rank k v
      pub near : IsNear k to

    pub nearer : (k v : ℕ) → IsNear k v → (v ≡ root) ⊎ LeadsNearer k v
    nearer zero v near = inl near
    nearer (suc k) v near = go (decide-near k v) near (λ close. nearer k v close)
      where
        kept : LeadsNearer k v → IsNear k v → LeadsNearer (suc k) v
        kept leads close = record {
          wire = leads.wire;
          listed = leads.listed;
          to = leads.to;
          links = leads.links;
          nearer = omega (
            arith,
            leads.nearer,
            count-yes (decide-near k v) close,
            count-yes (decide-near k leads.to) leads.near,
          );
          near = inl leads.near;
        }

        go : IsNear k v ⊎ ¬ IsNear k v → IsNear k v ⊎ IsNext (IsNear k) wires v
            → (IsNear k v → (v ≡ root) ⊎ LeadsNearer k v) → (v ≡ root) ⊎ LeadsNearer (suc k) v
        go (inl close) either before = ⊎_elim (λ (at : v ≡ root). inl at) (λ leads. inr (kept leads close))
            (before close)
        go (inr far) (inl close) before = absurd (far close)
        go (inr far) (inr next) before = inr (record {
          wire = next.0;
          listed = next.1;
          to = next.2.0;
          links = next.2.1;
          nearer = omega (
            arith,
            rank-far k v far,
            rank-le k next.2.0,
            count-yes (decide-near k next.2.0) next.2.2,
          );
          near = inl next.2.2;
        })

    pub near-wider : (k m v : ℕ) → k ≤ m → IsNear k v → IsNear m v
    near-wider k zero v le near =
        let same : k ≡ 0 = omega (arith, le) in
        subst (λ (n : ℕ). IsNear n v) same near
    near-wider k (suc m) v le near = ⊎_elim
        (λ (less : k < suc m). inl (near-wider k m v (omega (arith, less)) near))
        (λ (not : suc m ≤ k).
        let same : k ≡ suc m = omega (arith, le, not) in
        subst (λ (n : ℕ). IsNear n v) same near)
        (cases_lt k (suc m))

    -- a walk over the wires to the root
    pub near-from_walk : (v : ℕ) (es : List ℕ) → IsWalk board (Contains wires) v es root
        → IsNear (length es) v
    near-from_walk v [] walk = walk
    near-from_walk v (e ∷ es) walk =
        inr (e, walk.0, (walk.1.0, walk.1.1, near-from_walk walk.1.0 es walk.1.2))

    -- a number for a wire, by what its ends have, the one that is farther from the root first
    abbrev pub along-wire : (k : ℕ) → (ℕ → ℕ → ℕ) → Option Wire → ℕ
    along-wire k f None = 0
    along-wire k f (Some wire) = pick (cases_lt (rank k wire.b) (rank k wire.a)) (f wire.a wire.b)
        (f wire.b wire.a)

    abbrev pub along : (k : ℕ) → (ℕ → ℕ → ℕ) → ℕ → ℕ
    along k f e = along-wire k f (slice_get board.wires e)

    pick-first : {m n : ℕ} (d : (m < n) ⊎ (n ≤ m)) (x y : ℕ) → m < n → pick d x y ≡ x
    pick-first (inl less) x y is = refl
    pick-first (inr not) x y is = absurd (omega (arith, is, not))

    pick-second : {m n : ℕ} (d : (m < n) ⊎ (n ≤ m)) (x y : ℕ) → n ≤ m → pick d x y ≡ y
    pick-second (inl less) x y is = absurd (omega (arith, is, less))
    pick-second (inr not) x y is = refl

    pub along-nearer : (k : ℕ) (f : ℕ → ℕ → ℕ) (e v u : ℕ) → Links board e v u → rank k u < rank k v
        → along k f e ≡ f v u
    along-nearer k f e v u links less =
        ap (along-wire k f) links.is
        ∙ ⊎_elim
        (λ forth.
        let at_v = ap (rank k) forth.0 in
        let at_u = ap (rank k) forth.1 in
        pick-first (cases_lt (rank k links.wire.b) (rank k links.wire.a)) (f links.wire.a links.wire.b)
        (f links.wire.b links.wire.a) (omega (arith, at_v, at_u, less))
        ∙ ap (λ (x : ℕ). f x links.wire.b) forth.0 ∙ ap (f v) forth.1)
        (λ back.
        let at_u = ap (rank k) back.0 in
        let at_v = ap (rank k) back.1 in
        pick-second (cases_lt (rank k links.wire.b) (rank k links.wire.a)) (f links.wire.a links.wire.b)
        (f links.wire.b links.wire.a) (omega (arith, at_v, at_u, less))
        ∙ ap (λ (x : ℕ). f x links.wire.a) back.1 ∙ ap (f v) back.0)
        links.ends

    -- what holds of both ways over a wire holds of the way nearer to the root
    pub along-each : (k : ℕ) (f g h : ℕ → ℕ → ℕ) (e : ℕ)
        → ((v u : ℕ) → Links board e v u → f v u + g v u ≤ h v u)
        → along k f e + along k g e ≤ along k h e
    along-each k f g h e each = go (slice_get board.wires e) refl
      where
        both : (wire : Wire) → Links board e wire.a wire.b
            → (d : (rank k wire.b < rank k wire.a) ⊎ (rank k wire.a ≤ rank k wire.b))
            → pick d (f wire.a wire.b) (f wire.b wire.a) + pick d (g wire.a wire.b) (g wire.b wire.a)
            ≤ pick d (h wire.a wire.b) (h wire.b wire.a)
        both wire links (inl less) = each wire.a wire.b links
        both wire links (inr not) = each wire.b wire.a (Links-sym board e wire.a wire.b links)

        go : (found : Option Wire) → slice_get board.wires e ≡ found
            → along-wire k f found + along-wire k g found ≤ along-wire k h found
        go None is = omega arith
        go (Some wire) is = both wire (Links-ends board e wire is) (cases_lt (rank k wire.b) (rank k wire.a))

    -- a number that is the same both ways, or 0 where there is no wire
    pub along-le : (k number e : ℕ) → along k (λ v u. number) e ≤ number
    along-le k number e = go (slice_get board.wires e)
      where
        same : {m n : ℕ} (d : (m < n) ⊎ (n ≤ m)) → pick d number number ≤ number
        same (inl less) = omega arith
        same (inr not) = omega arith

        go : (found : Option Wire) → along-wire k (λ v u. number) found ≤ number
        go None = omega arith
        go (Some wire) = same (cases_lt (rank k wire.b) (rank k wire.a))
