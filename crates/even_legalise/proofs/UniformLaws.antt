-- what the uniform routing is, wire by wire and net by net
use Rattle.std.proofs.Common.{◌≡◌, ◌≢◌, ℕ, zero, suc, ◌+◌, ◌*◌, ◌<◌, ◌≤◌, Bool, true, false, cond, List, [], ◌∷◌, ◌++◌, length, map, get_or, take, sym, ap, ◌∙◌, refl, inl, inr, arith}
use Rattle.std.specs.Prelude.{All, AllPairs, count_by, filter, ◌==◌, replicate, slice_index_or}
use Rattle.std.specs.Int.{div_ceil}
use Rattle.std.proofs.lemmas.Bool.{eqb-true, eq-eqb, ne_eqb, cases_eq, cond-true, cond-false}
use Rattle.std.proofs.lemmas.List.{replicate-append-replicate}
use Rattle.std.proofs.lemmas.List.Elements.{All-weaker, All-tail}
use Rattle.std.proofs.lemmas.List.Sums.{sum_by-cons, get_or-le-sum_by, sum_by-le, sum_by-take-le, count_by_more_yes}
use Rattle.std.proofs.lemmas.Grind.{div_ceil_times}
use Rattle.tdm_problem.specs.declared.solution.WireUse.{WireUse}
use Rattle.tdm_problem.specs.Board.{Board}
use Rattle.tdm_problem.specs.Routing.{uses_of, wires_of, ratios_of, ratios_on}
use Rattle.tdm_problem.specs.Legal.{IsEvenRatio, lanes_of}
use Rattle.even_legalise.specs.Uniform.{nets_on, uniform_ratio, uniform_use}

-- a use of each wire, with the wire's ratio
abbrev pub use_with : (ℕ → ℕ) → ℕ → WireUse
use_with ratio e = record { wire = e; ratio = ratio e }

pub wires_of_uses : (ratio : ℕ → ℕ) (wires : List ℕ) → wires_of (map (use_with ratio) wires) ≡ wires
wires_of_uses ratio [] = refl
wires_of_uses ratio (e ∷ wires) = ap (λ w. e ∷ w) (wires_of_uses ratio wires)

-- one use more, on wire e or not
ratios_of_more : (ratio : ℕ → ℕ) (e d n : ℕ) (rest : List WireUse) (b : Bool) → (d == e) ≡ b
    → ratios_of rest ≡ replicate n (ratio e) → ratios_of (cond b (use_with ratio d ∷ rest) rest)
    ≡ replicate (cond b 1 0 + n) (ratio e)
ratios_of_more ratio e d n rest true same before =
    let here : ratio d ≡ ratio e = ap ratio (eqb-true d e same) in
    let count : 1 + n ≡ suc n = omega arith in
    rw count (ap (λ r. r ∷ ratios_of rest) here ∙ ap (λ rs. ratio e ∷ rs) before)
ratios_of_more ratio e d n rest false same before =
    let count : 0 + n ≡ n = omega arith in
    rw count before

ratios_of_one : (ratio : ℕ → ℕ) (e : ℕ) (wires : List ℕ)
    → ratios_of (filter (λ u. u.wire == e) (map (use_with ratio) wires))
    ≡ replicate (count_by (λ d. d == e) wires) (ratio e)
ratios_of_one ratio e [] = refl
ratios_of_one ratio e (d ∷ wires) =
    ratios_of_more ratio e d (count_by (λ d'. d' == e) wires)
    (filter (λ u. u.wire == e) (map (use_with ratio) wires)) (d == e) refl (ratios_of_one ratio e wires)
    ∙ ap (λ n. replicate n (ratio e)) (sym (sum_by-cons (λ d'. cond (d' == e) 1 0) d wires))

-- the ratios on a wire are its ratio, once for each net that uses it
pub ratios_on_uses : (ratio : ℕ → ℕ) (e : ℕ) (trees : List (List ℕ))
    → ratios_on (map (λ wires. map (use_with ratio) wires) trees) e ≡ replicate (nets_on trees e) (ratio e)
ratios_on_uses ratio e [] = refl
ratios_on_uses ratio e (wires ∷ trees) =
    let count : List ℕ → ℕ = λ row. count_by (λ d. d == e) row in
    ap (λ rs. rs ++ ratios_on (map (λ row. map (use_with ratio) row) trees) e) (ratios_of_one ratio e wires)
    ∙ (ap (λ rs. replicate (count wires) (ratio e) ++ rs) (ratios_on_uses ratio e trees)
    ∙ (replicate-append-replicate (count wires) (nets_on trees e) (ratio e)
    ∙ ap (λ n. replicate n (ratio e)) (sym (sum_by-cons count wires trees))))

-- the uses of a net are those of its tree's wires
pub uses_of_map : (f : ℕ → WireUse) (trees : List (List ℕ)) (n : ℕ)
    → uses_of (map (λ wires. map f wires) trees) n ≡ map f (slice_index_or trees n [])
uses_of_map f [] n = refl
uses_of_map f (wires ∷ trees) zero = refl
uses_of_map f (wires ∷ trees) (suc n) = uses_of_map f trees n

one-le-div_ceil : (a b : ℕ) → 1 ≤ a → 1 ≤ b → 1 ≤ div_ceil a b
one-le-div_ceil a b some there =
    let within : a ≤ div_ceil a b * b = (div_ceil_times a b there).0 in
    elim (div_ceil a b) as (λ q. a ≤ q * b → 1 ≤ q) [ zero ↦ λ h. omega arith | suc q ↦ λ h. omega arith ]
    within

pub wires_of_uniform : (board : Board) (trees : List (List ℕ)) (wires : List ℕ)
    → wires_of (map (uniform_use board trees) wires) ≡ wires
wires_of_uniform board trees wires = wires_of_uses (λ e. uniform_ratio (nets_on trees e) (lanes_of board e))
    wires

-- a ratio for at least one net is positive and even
pub uniform_ratio_even : (nets lanes : ℕ) → 1 ≤ nets → 1 ≤ lanes → IsEvenRatio (uniform_ratio nets lanes)
uniform_ratio_even nets lanes some there =
    let lane : 1 ≤ div_ceil nets lanes = one-le-div_ceil nets lanes some there in
    (div_ceil (div_ceil nets lanes) 2, one-le-div_ceil (div_ceil nets lanes) 2 lane (omega arith), refl)

counted_once : (d e : ℕ) → d ≡ e → cond {A = ℕ} (d == e) 1 0 ≡ 1
counted_once d e same = cond-true (d == e) 1 0 (eq-eqb d e same)

not_counted : (d e : ℕ) → d ≢ e → cond {A = ℕ} (d == e) 1 0 ≡ 0
not_counted d e other = cond-false (d == e) 1 0 (ne_eqb d e other)

-- a wire that a net uses has at least that net
pub nets_on_used : (trees : List (List ℕ)) (n k : ℕ) (none : List ℕ) (d : ℕ) → n < length trees
    → k < length (get_or trees n none) → 1 ≤ nets_on trees (get_or (get_or trees n none) k d)
nets_on_used trees n k none d in_trees in_row =
    let at_row : count_by (λ x. x == get_or (get_or trees n none) k d) (get_or trees n none)
    ≤ nets_on trees (get_or (get_or trees n none) k d) =
    get_or-le-sum_by (λ wires. count_by (λ x. x == get_or (get_or trees n none) k d) wires) trees n none
    in_trees in
    let at_place : cond {A = ℕ} (get_or (get_or trees n none) k d == get_or (get_or trees n none) k d) 1 0
    ≤ count_by (λ x. x == get_or (get_or trees n none) k d) (get_or trees n none) =
    get_or-le-sum_by (λ x. cond (x == get_or (get_or trees n none) k d) 1 0) (get_or trees n none) k d
    in_row in
    omega (arith, counted_once (get_or (get_or trees n none) k d) (get_or (get_or trees n none) k d) refl)

-- a number that the list does not have is counted 0 times
count_absent : (e : ℕ) (wires : List ℕ) → All (λ d. d ≢ e) wires → count_by (λ d. d == e) wires ≡ 0
count_absent e [] absent = refl
count_absent e (d ∷ wires) absent =
    let split : count_by (λ d'. d' == e) (d ∷ wires) ≡ cond {A = ℕ} (d == e) 1 0
    + count_by (λ d'. d' == e) wires = sum_by-cons (λ d'. cond (d' == e) 1 0) d wires in
    omega (
      arith,
      not_counted d e (absent 0 d (omega arith)),
      count_absent e wires (All-tail (λ x. x ≢ e) d wires absent),
    )

-- a list without repeats has a number at most once
pub count_distinct : (e : ℕ) (wires : List ℕ) → AllPairs (λ a b. a ≢ b) wires → count_by (λ d. d == e) wires
    ≤ 1
count_distinct e [] apart = omega arith
count_distinct e (d ∷ wires) apart =
    let rest : AllPairs (λ a b. a ≢ b) wires = λ i j x below inside. apart (suc i) (suc j) x (omega arith)
    (omega arith) in
    let split : count_by (λ d'. d' == e) (d ∷ wires) ≡ cond {A = ℕ} (d == e) 1 0
    + count_by (λ d'. d' == e) wires = sum_by-cons (λ d'. cond (d' == e) 1 0) d wires in
    elim (cases_eq d e) [
      | inl same ↦
          let absent : All (λ x. x ≢ e) wires = λ k x inside. λ found. apart 0 (suc k) x (omega arith)
          (omega arith) (same ∙ sym found) in
          omega (arith, counted_once d e same, count_absent e wires absent)
      | inr other ↦ omega (arith, not_counted d e other, count_distinct e wires rest)
    ]

-- no wire has more nets than there are
pub nets_on-le-length : (e : ℕ) (trees : List (List ℕ)) → All (λ wires. AllPairs (λ a b. a ≢ b) wires) trees
    → nets_on trees e ≤ length trees
nets_on-le-length e trees apart =
    let each : All (λ wires. count_by (λ d. d == e) wires ≤ 1) trees =
    All-weaker (λ wires. AllPairs (λ a b. a ≢ b) wires) (λ wires. count_by (λ d. d == e) wires ≤ 1)
    (λ wires. count_distinct e wires) trees apart in
    let bound : nets_on trees e ≤ length trees * 1 =
    sum_by-le (λ wires. count_by (λ d. d == e) wires) 1 trees each in
    omega arith

-- a number of a list without repeats does not stand before its place
pub count_before : (wires : List ℕ) (i : ℕ) → i < length wires → AllPairs (λ a b. a ≢ b) wires
    → count_by (λ d. d == get_or wires i 0) (take i wires) ≡ 0
count_before wires i inside apart =
    let more : count_by (λ d. d == get_or wires i 0) (take (i + 1) wires)
    ≡ count_by (λ d. d == get_or wires i 0) (take i wires) + 1 =
    count_by_more_yes (λ d. d == get_or wires i 0) wires i 0 inside
    (eq-eqb (get_or wires i 0) (get_or wires i 0) refl) in
    let part : count_by (λ d. d == get_or wires i 0) (take (i + 1) wires)
    ≤ count_by (λ d. d == get_or wires i 0) wires =
    sum_by-take-le (λ d. cond (d == get_or wires i 0) 1 0) wires (i + 1) in
    let whole : count_by (λ d. d == get_or wires i 0) wires ≤ 1 =
    count_distinct (get_or wires i 0) wires apart in
    omega arith
