-- How the cost of loads changes where a net gets other wires.
use Rattle.std.proofs.Common.{◌≡◌, ◌≢◌, ℕ, zero, suc, ◌+◌, ◌*◌, ◌<◌, Bool, true, false, cond, List, [], ◌∷◌, length, sym, ap, ◌∙◌, subst, ⊎_elim, arith, zero-add, length-set, get_or-set_same, get_or-set_other}
use Rattle.std.specs.Prelude.{◌==◌, slice_index, slice_set, sum_by}
use Rattle.std.specs.List.{list_any}
use Rattle.std.proofs.lemmas.Bool.{cases_eq}
use Rattle.std.proofs.lemmas.List.{set-get_or}
use Rattle.std.proofs.lemmas.List.Sums.{sum_by-cons}
use Rattle.tdm_problem.specs.Distance.{length_of}
use Rattle.tdm_problem.specs.Loads.{load_by, load_of, load_cost, without_net, marginal_length, CostLaw, MovedLaw}
use Rattle.tdm_problem.specs.Sums.{sum_below}
use Rattle.tdm_problem.specs.Trees.{tree_of}
use Rattle.tdm_problem.proofs.Exchanges.{sum_by-row}
use Rattle.tdm_problem.proofs.SumsBelow.{sum_below-add, sum_below-agree}

-- two functions that differ at one number alone
pub sum_below-differ : (n k d : ℕ) (f g : ℕ → ℕ) → k < n → ((i : ℕ) → i < n → i ≢ k → f i ≡ g i)
    → f k ≡ g k + d → sum_below n f ≡ sum_below n g + d
sum_below-differ zero k d f g below agree here = absurd (omega arith)
sum_below-differ (suc n) k d f g below agree here =
    ⊎_elim
    (λ (last : n ≡ k).
    let before : sum_below n f ≡ sum_below n g =
    sum_below-agree n f g (λ i small. agree i (omega (arith, small)) (λ (e : i ≡ k). omega (
      arith,
      e,
      small,
      last,
    ))) in
    let same : f n ≡ g n + d = subst (λ (m : ℕ). f m ≡ g m + d) (sym last) here in
    omega (arith, before, same))
    (λ (other : n ≢ k).
    let before : sum_below n f ≡ sum_below n g + d =
    sum_below-differ n k d f g (omega (arith, below, other))
    (λ i small apart. agree i (omega (arith, small)) apart) here in
    omega (arith, before, agree n (omega arith) other))
    (cases_eq n k)

-- a net adds its own load to what the others load
pub load_of-moved : (trees : List (List ℕ)) (numbers : List ℕ) (n : ℕ) (wires : List ℕ) (e : ℕ)
    → n < length trees → load_of (slice_set trees n wires) numbers e ≡ load_of (without_net trees n) numbers e
    + load_by (slice_index numbers n) wires e
load_of-moved trees numbers n wires e there =
    rw (length-set trees n wires, length-set trees n [])
    (sum_below-differ (length trees) n (load_by (slice_index numbers n) wires e)
    (λ m. load_by (slice_index numbers m) (tree_of (slice_set trees n wires) m) e)
    (λ m. load_by (slice_index numbers m) (tree_of (slice_set trees n []) m) e)
    there
    (λ m below other.
    ap (λ (tree : List ℕ). load_by (slice_index numbers m) tree e)
    (get_or-set_other trees n m wires [] other ∙ sym (get_or-set_other trees n m [] [] other)))
    (rw (get_or-set_same trees n wires [] there, get_or-set_same trees n [] [] there)
    (sym (zero-add (load_by (slice_index numbers n) wires e)))))

-- the square of a load with one more net
squared : (b : Bool) (y s : ℕ) → (y + cond b s 0) * (y + cond b s 0) ≡ y * y + cond b (s * (2 * y + s)) 0
squared true y s = omega arith
squared false y s = omega arith

-- a common factor of a sum
pub sum_by-times : (k : ℕ) (f : ℕ → ℕ) (xs : List ℕ) → sum_by (λ x. k * f x) xs ≡ k * sum_by f xs
sum_by-times k f [] = omega arith
sum_by-times k f (x ∷ xs) =
    sum_by-cons (λ y. k * f y) x xs
    ∙ ap (λ (rest : ℕ). k * f x + rest) (sum_by-times k f xs)
    ∙ (rw (sum_by-cons f x xs) (omega arith))

pub load_cost-moved : CostLaw
load_cost-moved board trees numbers n wires there are =
    let y : ℕ → ℕ = λ e. load_of (without_net trees n) numbers e in
    let s : ℕ = slice_index numbers n in
    let long : ℕ → ℕ = λ e. s * marginal_length trees numbers n e in
    let part : ℕ → ℕ = λ e. cond (list_any (λ d. d == e) wires) (long e) 0 in
    sum_below-agree (length board.wires)
    (λ e. load_of (slice_set trees n wires) numbers e * load_of (slice_set trees n wires) numbers e)
    (λ e. y e * y e + part e)
    (λ e below. ap (λ (x : ℕ). x * x) (load_of-moved trees numbers n wires e there)
    ∙ squared (list_any (λ d. d == e) wires) (y e) s)
    ∙ sum_below-add (length board.wires) (λ e. y e * y e) part
    ∙ ap (λ (x : ℕ). load_cost board (without_net trees n) numbers + x)
    (sym (sum_by-row long (length board.wires) wires are.distinct are.there)
    ∙ sum_by-times s (marginal_length trees numbers n) wires)

pub load_cost-exchanged : MovedLaw
load_cost-exchanged board trees numbers n wires there old new =
    let same : slice_set trees n (tree_of trees n) ≡ trees = set-get_or trees n [] in
    let before : load_cost board trees numbers ≡ load_cost board (without_net trees n) numbers
    + slice_index numbers n * length_of (marginal_length trees numbers n) (tree_of trees n) =
    subst (λ (ts : List (List ℕ)). load_cost board ts numbers ≡ load_cost board (without_net trees n) numbers
    + slice_index numbers n * length_of (marginal_length trees numbers n) (tree_of trees n)) same
    (load_cost-moved board trees numbers n (tree_of trees n) there old) in
    let after : load_cost board (slice_set trees n wires) numbers
    ≡ load_cost board (without_net trees n) numbers + slice_index numbers n * length_of
    (marginal_length trees numbers n) wires =
    load_cost-moved board trees numbers n wires there new in
    let swap : (a b c x y : ℕ) → a ≡ b + x → c ≡ b + y → a + y ≡ c + x = λ a b c x y e f. omega (
      arith,
      e,
      f,
    ) in
    swap (load_cost board (slice_set trees n wires) numbers) (load_cost board (without_net trees n) numbers)
    (load_cost board trees numbers)
    (slice_index numbers n * length_of (marginal_length trees numbers n) wires)
    (slice_index numbers n * length_of (marginal_length trees numbers n) (tree_of trees n)) after before
