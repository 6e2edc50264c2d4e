-- the numbers of the nets on a wire
use Rattle.std.proofs.Common.{◌≡◌, ℕ, zero, suc, ◌+◌, ◌<◌, Bool, true, false, cond, List, [], ◌∷◌, ◌++◌, length, map, get_or, take, ap, sym, ◌∙◌, refl, arith, append_assoc}
use Rattle.std.specs.Prelude.{◌==◌, All, max, filter, sum_by, count_by, if◌then◌else◌}
use Rattle.std.specs.List.{fold, zip}
use Rattle.std.proofs.lemmas.Bool.{eqb-true}
use Rattle.std.proofs.lemmas.List.{length-map, length-append, map-append, append-nil}
use Rattle.std.proofs.lemmas.List.Elements.{All-append, All-head, All-map, All-tail}
use Rattle.std.proofs.lemmas.List.Sums.{sum_by-cons, length-filter}
use Rattle.tdm_problem.specs.declared.solution.WireUse.{WireUse}
use Rattle.tdm_problem.specs.Routing.{ratios_of, ratios_on}
use Rattle.tdm_problem.specs.Value.{largest}
use Rattle.even_legalise.specs.Uniform.{nets_on}
use Rattle.even_legalise.specs.Shared.{numbers_on}

-- a net's number, as often as its tree has wire e
abbrev pub number_on : (wires : List ℕ) → (number e : ℕ) → List ℕ
number_on wires number e = map (λ d. number) (filter (λ d. d == e) wires)

-- the numbers with one net more
numbers_on_suc : (trees : List (List ℕ)) (numbers : List ℕ) (n e : ℕ) → n < length trees → n < length numbers
    → numbers_on (take (suc n) trees) (take (suc n) numbers) e ≡ numbers_on (take n trees) (take n numbers) e
    ++ number_on (get_or trees n []) (get_or numbers n 0) e
numbers_on_suc [] numbers n e inside paired = absurd (omega arith)
numbers_on_suc (wires ∷ trees) [] n e inside paired = absurd (omega arith)
numbers_on_suc (wires ∷ trees) (number ∷ numbers) zero e inside paired = append-nil (number_on wires number e)
numbers_on_suc (wires ∷ trees) (number ∷ numbers) (suc n) e inside paired =
    ap (λ xs. number_on wires number e ++ xs) (numbers_on_suc trees numbers n e (omega arith) (omega arith))
    ∙ sym (append_assoc (number_on wires number e) (numbers_on (take n trees) (take n numbers) e)
    (number_on (get_or trees n []) (get_or numbers n 0) e))

pub numbers_on_more : (trees : List (List ℕ)) (numbers : List ℕ) (n e : ℕ) → n < length trees
    → n < length numbers → numbers_on (take (n + 1) trees) (take (n + 1) numbers) e
    ≡ numbers_on (take n trees) (take n numbers) e ++ number_on (get_or trees n []) (get_or numbers n 0) e
numbers_on_more trees numbers n e inside paired =
    let next : n + 1 ≡ suc n = omega arith in
    rw next (numbers_on_suc trees numbers n e inside paired)

-- what holds of all numbers holds of those on a wire
pub numbers_on-all : (P : ℕ → Type 0) (trees : List (List ℕ)) (numbers : List ℕ) (e : ℕ) → All P numbers
    → All P (numbers_on trees numbers e)
numbers_on-all P [] numbers e all = λ k d inside. absurd (omega arith)
numbers_on-all P (wires ∷ trees) [] e all = λ k d inside. absurd (omega arith)
numbers_on-all P (wires ∷ trees) (number ∷ numbers) e all =
    All-append P (number_on wires number e) (numbers_on trees numbers e)
    (All-map P (λ (d : ℕ). number) (filter (λ d. d == e) wires) (λ k d inside. All-head P number numbers all))
    (numbers_on-all P trees numbers e (All-tail P number numbers all))

-- there are as many numbers as nets
pub length-numbers_on : (trees : List (List ℕ)) (numbers : List ℕ) (e : ℕ) → length numbers ≡ length trees
    → length (numbers_on trees numbers e) ≡ nets_on trees e
length-numbers_on [] numbers e paired = refl
length-numbers_on (wires ∷ trees) [] e paired = absurd (omega arith)
length-numbers_on (wires ∷ trees) (number ∷ numbers) e paired =
    omega (
      arith,
      length-append (number_on wires number e) (numbers_on trees numbers e),
      length-map (filter (λ d. d == e) wires) (λ (d : ℕ). number),
      length-filter (λ d. d == e) wires,
      length-numbers_on trees numbers e (omega arith),
      sum_by-cons (λ (row : List ℕ). count_by (λ d. d == e) row) wires trees,
    )

pub largest_append : (xs ys : List ℕ) → largest (xs ++ ys) ≡ max (largest xs) (largest ys)
largest_append [] ys = omega arith
largest_append (x ∷ xs) ys = omega (arith, largest_append xs ys)

-- raising by a net's number leaves the largest
raised : (b : Bool) (a number e : ℕ) (rest : List ℕ) (wires : List ℕ)
    → fold (λ a' d. if d == e then max a' number else a') (if b then max a number else a) wires
    ≡ max (if b then max a number else a) (largest rest)
    → fold (λ a' d. if d == e then max a' number else a') (if b then max a number else a) wires
    ≡ max a (largest (cond b (number ∷ rest) rest))
raised true a number e rest wires before = omega (arith, before)
raised false a number e rest wires before = before

map_cond : (b : Bool) (d number : ℕ) (rest : List ℕ) → map (λ (x : ℕ). number) (cond b (d ∷ rest) rest)
    ≡ cond b (number ∷ map (λ (x : ℕ). number) rest) (map (λ (x : ℕ). number) rest)
map_cond true d number rest = refl
map_cond false d number rest = refl

pub raised_by : (wires : List ℕ) (number e a : ℕ)
    → fold (λ a' d. if d == e then max a' number else a') a wires ≡ max a (largest (number_on wires number e))
raised_by [] number e a = omega arith
raised_by (d ∷ wires) number e a =
    raised (d == e) a number e (number_on wires number e) wires
    (raised_by wires number e (if d == e then max a number else a))
    ∙ ap (λ xs. max a (largest xs)) (sym (map_cond (d == e) d number (filter (λ x. x == e) wires)))

-- what a net adds to a sum over the numbers on a wire
added_one : (f : ℕ → ℕ) (b : Bool) (number : ℕ) (rest : List ℕ) → sum_by f (cond b (number ∷ rest) rest)
    ≡ cond b (f number) 0 + sum_by f rest
added_one f true number rest = sum_by-cons f number rest
added_one f false number rest = omega arith

pub added_by : (f : ℕ → ℕ) (wires : List ℕ) (number e : ℕ) → sum_by f (number_on wires number e)
    ≡ sum_by (λ d. if d == e then f number else 0) wires
added_by f [] number e = refl
added_by f (d ∷ wires) number e =
    ap (sum_by f) (map_cond (d == e) d number (filter (λ x. x == e) wires))
    ∙ (added_one f (d == e) number (number_on wires number e)
    ∙ (ap (λ (m : ℕ). cond (d == e) (f number) 0 + m) (added_by f wires number e)
    ∙ sym (sum_by-cons (λ x. if x == e then f number else 0) d wires)))

-- the ratios on a wire, where each is given by the wire and the net's number
abbrev pub use_by : (ratio : ℕ → ℕ → ℕ) → (number e : ℕ) → WireUse
use_by ratio number e = record { wire = e; ratio = ratio e number }

ratios_step : (ratio : ℕ → ℕ → ℕ) (b : Bool) (d e number : ℕ) (uses : List WireUse) (rest : List ℕ)
    → (d == e) ≡ b → ratios_of uses ≡ map (ratio e) rest
    → ratios_of (cond b (use_by ratio number d ∷ uses) uses) ≡ map (ratio e) (cond b (number ∷ rest) rest)
ratios_step ratio true d e number uses rest same before =
    ap (λ (x : ℕ). ratio x number ∷ ratios_of uses) (eqb-true d e same)
    ∙ ap (λ rs. ratio e number ∷ rs) before
ratios_step ratio false d e number uses rest same before = before

ratios_in : (ratio : ℕ → ℕ → ℕ) (wires : List ℕ) (number e : ℕ)
    → ratios_of (filter (λ u. u.wire == e) (map (use_by ratio number) wires))
    ≡ map (ratio e) (number_on wires number e)
ratios_in ratio [] number e = refl
ratios_in ratio (d ∷ wires) number e =
    ratios_step ratio (d == e) d e number (filter (λ u. u.wire == e) (map (use_by ratio number) wires))
    (number_on wires number e) refl (ratios_in ratio wires number e)
    ∙ ap (map (ratio e)) (sym (map_cond (d == e) d number (filter (λ x. x == e) wires)))

pub ratios_by_numbers : (ratio : ℕ → ℕ → ℕ) (trees : List (List ℕ)) (numbers : List ℕ) (e : ℕ)
    → ratios_on (map (λ (net : List ℕ × ℕ). map (use_by ratio net.1) net.0) (zip trees numbers)) e
    ≡ map (ratio e) (numbers_on trees numbers e)
ratios_by_numbers ratio [] numbers e = refl
ratios_by_numbers ratio (wires ∷ trees) [] e = refl
ratios_by_numbers ratio (wires ∷ trees) (number ∷ numbers) e =
    ap (λ rs. rs ++ ratios_on (map (λ (net : List ℕ × ℕ). map (use_by ratio net.1) net.0) (zip trees numbers))
    e) (ratios_in ratio wires number e)
    ∙ (ap (λ rs. map (ratio e) (number_on wires number e) ++ rs) (ratios_by_numbers ratio trees numbers e)
    ∙ sym (map-append (ratio e) (number_on wires number e) (numbers_on trees numbers e)))
