-- The draft fits its role after a line.
use Rattle.std.proofs.Common.{◌≡◌, ℕ, suc, ◌+◌, ◌-◌, ◌^◌, ◌<◌, ◌≤◌, List, [], ◌∷◌, ◌++◌, length, None, Err, ◌∙◌, ap, arith, length-append, sum_by, zero-add}
use Rattle.std.proofs.lemmas.List.Sums.{sum_by-append}
use Rattle.tdm_problem.proofs.Repeats.{length-without_repeats}
use Rattle.tdm_problem.specs.Board.{Board, without_repeats}
use Rattle.tdm_problem.specs.Limits.{most_listed_fpgas, most_listed_nets}
use Rattle.contest_input.specs.declared.header.Sizes.{Sizes}
use Rattle.contest_input.specs.declared.kind.BoardKind.TheVariants.{MissingLine}
use Rattle.contest_input.specs.Faults.{net_fault, group_fault}
use Rattle.contest_input.specs.Roles.{IsInNets, IsInGroups, in_wires, in_nets, in_groups}
use Rattle.contest_input.proofs.Accepted.{net-listing, group-listing}

-- the total of one more row
sum_by-push : (rows : List (List ℕ)) (row : List ℕ) → sum_by length (rows ++ row ∷ []) ≡ sum_by length rows
    + length row
sum_by-push rows row = sum_by-append length rows (row ∷ [])
    ∙ ap (λ n. sum_by length rows + n) (zero-add (length row))

pub nets-fit : (sizes : Sizes) (board board' : Board) (left listed listed' : ℕ) (numbers : List ℕ)
    → IsInNets sizes board left listed → 0 < left - 1
    → net_fault sizes.fpgas (listed + length numbers) numbers ≡ None
    → listed' ≡ listed + length numbers
    → board' ≡ record board { nets = board.nets ++ without_repeats numbers ∷ [] }
    → IsInNets sizes board' (left - 1) listed'
nets-fit sizes board board' left listed listed' numbers fits some clean counted is =
    let row : List ℕ = without_repeats numbers in
    let within : listed + length numbers ≤ most_listed_fpgas =
    (net-listing sizes.fpgas (listed + length numbers) numbers clean).1 in
    let grown : length board'.nets ≡ length board.nets + 1 = ap (λ (b : Board). length b.nets) is
    ∙ length-append board.nets (row ∷ []) in
    let total : sum_by length board'.nets ≡ sum_by length board.nets + length row =
    ap (λ (b : Board). sum_by length b.nets) is ∙ sum_by-push board.nets row in
    let shorter : length row ≤ length numbers = length-without_repeats numbers in
    record {
      some = some;
      fpgas = ap (λ (b : Board). b.fpgas) is ∙ fits.fpgas;
      room = omega (arith, fits.room, fits.some);
      total = omega (arith, fits.total);
      within = omega arith;
      nets = fits.nets;
      groups = fits.groups;
      no_group = ap (λ (b : Board). b.groups) is ∙ fits.no_group;
    }

pub nets-small : (sizes : Sizes) (listed listed' : ℕ) (numbers : List ℕ)
    → net_fault sizes.fpgas (listed + length numbers) numbers ≡ None → listed' ≡ listed + length numbers
    → listed' ≤ 2 ^ 24
nets-small sizes listed listed' numbers clean counted =
    let within : listed + length numbers ≤ most_listed_fpgas =
    (net-listing sizes.fpgas (listed + length numbers) numbers clean).1 in omega arith

pub groups-fit : (sizes : Sizes) (board board' : Board) (left listed listed' : ℕ) (numbers : List ℕ)
    → IsInGroups sizes board left listed → 0 < left - 1
    → group_fault sizes.nets (listed + length numbers) numbers ≡ None
    → listed' ≡ listed + length numbers
    → board' ≡ record board { groups = board.groups ++ without_repeats numbers ∷ [] }
    → IsInGroups sizes board' (left - 1) listed'
groups-fit sizes board board' left listed listed' numbers fits some clean counted is =
    let row : List ℕ = without_repeats numbers in
    let within : listed + length numbers ≤ most_listed_nets =
    (group-listing sizes.nets (listed + length numbers) numbers clean).1 in
    let grown : length board'.groups ≡ length board.groups + 1 = ap (λ (b : Board). length b.groups) is
    ∙ length-append board.groups (row ∷ []) in
    let total : sum_by length board'.groups ≡ sum_by length board.groups + length row =
    ap (λ (b : Board). sum_by length b.groups) is ∙ sum_by-push board.groups row in
    let shorter : length row ≤ length numbers = length-without_repeats numbers in
    record {
      some = some;
      nets = ap (λ (b : Board). length b.nets) is ∙ fits.nets;
      room = omega (arith, fits.room, fits.some);
      total = omega (arith, fits.total);
      within = omega arith;
      groups = fits.groups;
    }

pub groups-small : (sizes : Sizes) (listed listed' : ℕ) (numbers : List ℕ)
    → group_fault sizes.nets (listed + length numbers) numbers ≡ None → listed' ≡ listed + length numbers
    → listed' ≤ 2 ^ 24
groups-small sizes listed listed' numbers clean counted =
    let within : listed + length numbers ≤ most_listed_nets =
    (group-listing sizes.nets (listed + length numbers) numbers clean).1 in omega arith

one_less : (left : ℕ) → 0 < left → left ≡ suc (left - 1)
one_less left some = omega arith

-- a line is missing
pub wires-missing : (sizes : Sizes) (board : Board) (left end : ℕ) → 0 < left
    → in_wires sizes board left end [] ≡ Err (record { kind = MissingLine; line = end })
wires-missing sizes board left end some = ap (λ k. in_wires sizes board k end []) (one_less left some)

pub nets-missing : (sizes : Sizes) (board : Board) (left listed end : ℕ) → 0 < left
    → in_nets sizes board left listed end [] ≡ Err (record { kind = MissingLine; line = end })
nets-missing sizes board left listed end some =
    ap (λ k. in_nets sizes board k listed end []) (one_less left some)

pub groups-missing : (sizes : Sizes) (board : Board) (left listed end : ℕ) → 0 < left
    → in_groups sizes board left listed end [] ≡ Err (record { kind = MissingLine; line = end })
groups-missing sizes board left listed end some =
    ap (λ k. in_groups sizes board k listed end []) (one_less left some)
