-- How long walks to the terminals of a net are at least, together.
use Rattle.std.proofs.Common.{◌≡◌, ◌≢◌, ℕ, zero, suc, ◌+◌, ◌<◌, ◌≤◌, ◌-◌, Bool, cond, List, [], ◌∷◌, length, get_or, drop, drop-cons, add-one, refl, sym, ap, ◌∙◌, subst, ⊎_elim, arith}
use Rattle.std.specs.Prelude.{All, Contains, sum_by, ◌==◌}
use Rattle.std.proofs.lemmas.Bool.{cases_eq, eq-eqb, ne_eqb}
use Rattle.std.proofs.lemmas.List.Elements.{Contains-append_right, Contains-get_or}
use Rattle.std.proofs.lemmas.List.Sums.{sum_by-cons}
use Rattle.tdm_problem.specs.Board.{Board}
use Rattle.tdm_problem.specs.Distance.{length_of}
use Rattle.tdm_problem.specs.Walk.{IsWalk, AnyWire}
use Rattle.tdm_problem.proofs.Walks.{either}
use Rattle.steiner_build.specs.Building.{IsReachedWithin, IsWithinWalks}
use Rattle.ripup_reroute.specs.declared.table.Table.{Table}
use Rattle.ripup_reroute.specs.Bounds.{IsTable, IsScaled, bound_at}
use Rattle.ripup_reroute.proofs.Bounding.{bound-below}

-- a sum of larger terms is larger
members-sum : (f g : ℕ → ℕ) (xs : List ℕ) → ((x : ℕ) → Contains xs x → f x ≤ g x) → sum_by f xs ≤ sum_by g xs
members-sum f g [] less = omega arith
members-sum f g (x ∷ xs) less =
    omega (
      arith,
      less x (Contains-get_or (x ∷ xs) 0 0 (omega arith)),
      members-sum f g xs (λ y among. less y (Contains-append_right (x ∷ []) xs y among)),
      sum_by-cons f x xs,
      sum_by-cons g x xs,
    )

-- so are the last terms
members-sum-drop : (f g : ℕ → ℕ) (i : ℕ) (xs : List ℕ) → ((x : ℕ) → Contains xs x → f x ≤ g x)
    → sum_by f (drop i xs) ≤ sum_by g (drop i xs)
members-sum-drop f g zero xs less = members-sum f g xs less
members-sum-drop f g (suc i) [] less = omega arith
members-sum-drop f g (suc i) (x ∷ xs) less =
    members-sum-drop f g i xs (λ y among. less y (Contains-append_right (x ∷ []) xs y among))

-- walks from one of two FPGAs to both are as long as a walk to the other
pub pair-least : (board : Board) (wire_length : ℕ → ℕ) (a b number : ℕ)
    → IsWithinWalks board wire_length a (a ∷ b ∷ []) number → (es : List ℕ)
    → IsWalk board (AnyWire board) a es b → number ≤ length_of wire_length es
pair-least board wire_length a b number within es walk =
    let far : ℕ → ℕ = λ x. cond (x == a) 0 (length_of wire_length es) in
    let at_a : far a ≡ 0 = ap (λ (t : Bool). cond t 0 (length_of wire_length es)) (eq-eqb a a refl) in
    let at : (x : ℕ) → far x ≤ length_of wire_length es =
    λ x. ⊎_elim
    (λ (same : x ≡ a). omega (
      arith,
      ap (λ (t : Bool). cond t 0 (length_of wire_length es)) (eq-eqb x a same),
    ))
    (λ (other : x ≢ a). omega (
      arith,
      ap (λ (t : Bool). cond t 0 (length_of wire_length es)) (ne_eqb x a other),
    ))
    (cases_eq x a) in
    let reached : (t : ℕ) → Contains (a ∷ b ∷ []) t → IsReachedWithin board wire_length a t (far t) =
    λ t among. ⊎_elim
    (λ (same : t ≡ a). let none : List ℕ = [] in (none, sym same, omega arith))
    (λ (other : t ≢ a).
    let is_b : b ≡ t = ⊎_elim (λ (first : a ≡ t). absurd (other (sym first))) (λ (second : b ≡ t). second)
    (either a b t among) in (
      es,
      subst (λ (x : ℕ). IsWalk board (AnyWire board) a es x) is_b walk,
      omega (arith, ap (λ (k : Bool). cond k 0 (length_of wire_length es)) (ne_eqb t a other)),
    ))
    (cases_eq t a) in
    omega (arith, within far reached, at_a, at b, sum_by-cons far a (b ∷ []), sum_by-cons far b [])

module _ (board : Board) (wire_length : ℕ → ℕ) (start : ℕ) (terminals : List ℕ) (bound : ℕ → ℕ) where
  -- the bound of each terminal is at most each walk to it
  abbrev pub AreBounds : Type 0
  AreBounds = (t : ℕ) (es : List ℕ) → Contains terminals t → IsWalk board (AnyWire board) start es t
      → bound t ≤ length_of wire_length es

  below-far : AreBounds → (far : ℕ → ℕ)
      → ((t : ℕ) → Contains terminals t → IsReachedWithin board wire_length start t (far t)) → (t : ℕ)
      → Contains terminals t → bound t ≤ far t
  below-far bounds far reached t among =
      let way = reached t among in omega (arith, bounds t way.0 among way.1, way.2)

  -- what is at most the sum of the bounds, walks reach together
  pub bounds-within : AreBounds → (number : ℕ) → number ≤ sum_by bound terminals
      → IsWithinWalks board wire_length start terminals number
  bounds-within bounds number few far reached =
      omega (arith, few, members-sum bound far terminals (below-far bounds far reached))

  -- the first terminals have least lengths, the others their bounds
  pub record IsRaising (i known left cap : ℕ) : Type 0 where
    pub left_is : left ≡ sum_by bound (drop i terminals)
    pub known_within : (far : ℕ → ℕ)
        → ((t : ℕ) → Contains terminals t → IsReachedWithin board wire_length start t (far t))
        → known + sum_by far (drop i terminals) ≤ sum_by far terminals
    pub capped : known + left ≤ cap

  pub raising-none : (left cap : ℕ) → left ≡ sum_by bound terminals → left ≤ cap → IsRaising 0 0 left cap
  raising-none left cap is capped = record {
    left_is = is;
    known_within = λ far reached. omega arith;
    capped = omega (arith, capped);
  }

  -- the terminals from the next one on
  next : (f : ℕ → ℕ) (i : ℕ) → i < length terminals → sum_by f (drop i terminals) ≡ f (get_or terminals i 0)
      + sum_by f (drop (i + 1) terminals)
  next f i below = ap (sum_by f) (drop-cons terminals i 0 below)
      ∙ sum_by-cons f (get_or terminals i 0) (drop (suc i) terminals)
      ∙ ap (λ (k : ℕ). f (get_or terminals i 0) + sum_by f (drop k terminals)) (sym (add-one i))

  -- the bound of the next terminal is within what is left
  pub raising-room : (i known left cap : ℕ) → i < length terminals → IsRaising i known left cap
      → bound (get_or terminals i 0) ≤ left
  raising-room i known left cap below so_far = omega (arith, so_far.left_is, next bound i below)

  -- the next bound is raised
  pub raising-more : (i known left cap least : ℕ) → i < length terminals → IsRaising i known left cap
      → known + (left - bound (get_or terminals i 0)) + least ≤ cap
      → ((es : List ℕ) → IsWalk board (AnyWire board) start es (get_or terminals i 0)
      → least ≤ length_of wire_length es)
      → IsRaising (i + 1) (known + least) (left - bound (get_or terminals i 0)) cap
  raising-more i known left cap least below so_far few short = record {
    left_is = omega (arith, so_far.left_is, next bound i below);
    known_within = λ far reached. (
        let way = reached (get_or terminals i 0) (Contains-get_or terminals i 0 below) in
        omega (arith, so_far.known_within far reached, next far i below, short way.0 way.1, way.2));
    capped = omega (arith, few);
  }

  -- what walks reach then
  pub raising-within : AreBounds → (i known left cap : ℕ) → IsRaising i known left cap
      → IsWithinWalks board wire_length start terminals (known + left)
  raising-within bounds i known left cap so_far far reached =
      omega (
        arith,
        so_far.left_is,
        so_far.known_within far reached,
        members-sum-drop bound far i terminals (below-far bounds far reached),
      )

-- the bounds of a table are bounds of terminals
pub table-bounds : (board : Board) (table : Table) (scale : ℕ) (wire_length : ℕ → ℕ) → IsTable board table
    → IsScaled table scale wire_length → (start : ℕ) (terminals : List ℕ)
    → All (λ t. t < board.fpgas) terminals
    → AreBounds board wire_length start terminals (λ t. bound_at table scale t start)
table-bounds board table scale wire_length is scaled start terminals inside t es among walk =
    bound-below board table scale wire_length is scaled t start es (omega (
      arith,
      inside among.0 0 among.1,
      among.2,
    )) walk
