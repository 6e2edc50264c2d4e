-- What a line that ends makes of what is said.
use Rattle.std.proofs.Common.{◌≡◌, ℕ, suc, ◌-◌, ◌<◌, List, ◌∷◌, length, Option, None, Some, Err, refl, sym, ◌∙◌, ap, ◌≤◌, ⊎_elim, arith}
use Rattle.std.proofs.lemmas.Bool.{cases_lt}
use Rattle.tdm_lines.specs.Lines.{Line}
use Rattle.tdm_lines.specs.SoFar.{ended_line}
use Rattle.tdm_lines.specs.Written.{plain_line}
use Rattle.tdm_lines.specs.declared.line.TokenFault.{TokenFault}
use Rattle.tdm_problem.specs.Board.{Board, without_repeats}
use Rattle.contest_input.specs.Kinds.{BoardRefusal}
use Rattle.contest_input.specs.declared.header.Sizes.{Sizes}
use Rattle.contest_input.specs.declared.kind.BoardKind.{BoardKind}
use Rattle.contest_input.specs.declared.kind.BoardKind.TheVariants.{ExtraLine}
use Rattle.contest_input.specs.declared.roles.Role.{Role}
use Rattle.contest_input.specs.declared.roles.Role.TheVariants as role
use Rattle.contest_input.specs.Faults.{sizes_of, wire_of, wire_fault, net_fault, group_fault}
use Rattle.contest_input.specs.BoardText.{refused_at, unless}
use Rattle.contest_input.specs.Roles.{said_in, line_kind, room_of, IsKeptOf, IsInRole, in_section, in_wires, in_nets, in_groups, at_end}
use Rattle.contest_input.proofs.WholeText.{by_sections, bare}
use Rattle.contest_input.proofs.RoleLaws.{section-refused}
use Rattle.contest_input.proofs.KeptNumbers.{judged, long-refused}

pub number-is : (n : ℕ) (fault : Option TokenFault) (numbers : List ℕ) → (ended_line n fault numbers).number
    ≡ n
number-is n None numbers = refl
number-is n (Some f) numbers = refl

-- a line at fault decides, whatever comes
pub said-refused : (r : Role) (sizes : Sizes) (board : Board) (left listed end : ℕ) (line : Line)
    (more : List Line) (kind : BoardKind) → IsInRole r sizes board left listed → line_kind r sizes listed line
    ≡ Some kind
    → said_in r sizes board left listed end (line ∷ more) ≡ Err (record { kind = kind; line = line.number })
said-refused role.Header sizes board left listed end line more kind fits is =
    by_sections end line more
    ∙ ap (λ k. unless (refused_at line.number k)
    (in_wires (sizes_of line.numbers) (bare (sizes_of line.numbers).fpgas)
    (sizes_of line.numbers).wires end more)) is
said-refused role.Wire sizes board left listed end line more kind fits is =
    let one : left ≡ suc (left - 1) = omega (arith, fits.some) in
    ap (λ k. in_section (λ _. wire_fault sizes.fpgas) wire_of
    (λ rows. in_nets sizes (record board { wires = rows }) sizes.nets 0 end) end k 0 board.wires
    (line ∷ more)) one
    ∙ section-refused (λ _. wire_fault sizes.fpgas) wire_of
    (λ rows. in_nets sizes (record board { wires = rows }) sizes.nets 0 end) end (left - 1) 0 board.wires
    line more kind is
said-refused role.Net sizes board left listed end line more kind fits is =
    let one : left ≡ suc (left - 1) = omega (arith, fits.some) in
    ap (λ k. in_nets sizes board k listed end (line ∷ more)) one
    ∙ section-refused (net_fault sizes.fpgas) without_repeats
    (λ rows. in_groups sizes (record board { nets = rows }) sizes.groups 0 end) end
    (left - 1) listed board.nets line more kind is
said-refused role.Group sizes board left listed end line more kind fits is =
    let one : left ≡ suc (left - 1) = omega (arith, fits.some) in
    ap (λ k. in_groups sizes board k listed end (line ∷ more)) one
    ∙ section-refused (group_fault sizes.nets) without_repeats
    (λ rows. at_end (record board { groups = rows })) end (left - 1) listed board.groups line more kind is
said-refused role.End sizes board left listed end line more kind fits is =
    let same : ExtraLine ≡ kind = cc in
    ap (λ (k : BoardKind). Err (record { kind = k; line = line.number })) same
said-refused (role.Refused why) sizes board left listed end line more kind fits is = absurd (cc)

-- a line of tokens without fault is judged by its numbers
pub clean-plain : (r : Role) (sizes : Sizes) (listed n m : ℕ) (fault : Option TokenFault) (numbers : List ℕ)
    → line_kind r sizes listed (ended_line n fault numbers) ≡ None
    → line_kind r sizes listed (plain_line m numbers) ≡ None
clean-plain role.Header sizes listed n m None numbers is = is
clean-plain role.Header sizes listed n m (Some f) numbers is = absurd (cc)
clean-plain role.Wire sizes listed n m None numbers is = is
clean-plain role.Wire sizes listed n m (Some f) numbers is = absurd (cc)
clean-plain role.Net sizes listed n m None numbers is = is
clean-plain role.Net sizes listed n m (Some f) numbers is = absurd (cc)
clean-plain role.Group sizes listed n m None numbers is = is
clean-plain role.Group sizes listed n m (Some f) numbers is = absurd (cc)
clean-plain role.End sizes listed n m fault numbers is = absurd (cc)
clean-plain (role.Refused why) sizes listed n m fault numbers is = refl

-- a line whose tokens are at fault is no further fault of a refused text alone
pub refused-there : (r : Role) (sizes : Sizes) (listed n : ℕ) (f : TokenFault) (numbers : List ℕ)
    → line_kind r sizes listed (ended_line n (Some f) numbers) ≡ None → (why : BoardRefusal)
    × (r ≡ role.Refused why)
refused-there role.Header sizes listed n f numbers is = absurd (cc)
refused-there role.Wire sizes listed n f numbers is = absurd (cc)
refused-there role.Net sizes listed n f numbers is = absurd (cc)
refused-there role.Group sizes listed n f numbers is = absurd (cc)
refused-there role.End sizes listed n f numbers is = absurd (cc)
refused-there (role.Refused why) sizes listed n f numbers is = (why, refl)

-- a line without fault is taken, and a refused text stays so
pub taken-line : (r : Role) (sizes : Sizes) (board : Board) (left listed : ℕ) (r' : Role) (sizes' : Sizes)
    (board' : Board) (left' listed' : ℕ) (n : ℕ) (fault : Option TokenFault) (items numbers : List ℕ)
    (count : ℕ)
    → 0 < count → (fault ≡ None → (count ≡ length numbers) × IsKeptOf (room_of r) items numbers)
    → line_kind r sizes listed (ended_line n fault items) ≡ None
    → ((why : BoardRefusal) → r ≡ role.Refused why → r' ≡ role.Refused why)
    → ((m end : ℕ) (more : List Line) → 0 < length items
    → said_in r sizes board left listed end (plain_line m items ∷ more)
    ≡ said_in r' sizes' board' left' listed' end more)
    → (end : ℕ) (more : List Line) → said_in r sizes board left listed end (ended_line n fault numbers ∷ more)
    ≡ said_in r' sizes' board' left' listed' end more
taken-line r sizes board left listed r' sizes' board' left' listed' n None items numbers count some known
    clean stays said end more =
    let counted : count ≡ length numbers = (known refl).0 in
    let k : IsKeptOf (room_of r) items numbers = (known refl).1 in
    ⊎_elim
    (λ (few : length numbers < room_of r). ap (λ ns. said_in r sizes board left listed end
    (plain_line n ns ∷ more)) (sym (k.short few))
    ∙ said n end more (omega (arith, counted, ap length (k.short few))))
    (λ (many : room_of r ≤ length numbers).
    let there = long-refused sizes listed n r numbers many
    (sym (judged sizes listed n r None items numbers (λ _. k)) ∙ clean) in
    ap (λ x. said_in x sizes board left listed end (plain_line n numbers ∷ more)) there.1
    ∙ sym (ap (λ x. said_in x sizes' board' left' listed' end more) (stays there.0 there.1)))
    (cases_lt (length numbers) (room_of r))
taken-line r sizes board left listed r' sizes' board' left' listed' n (Some f) items numbers count some known
    clean stays said end more =
    let there = refused-there r sizes listed n f items clean in
    ap (λ x. said_in x sizes board left listed end (ended_line n (Some f) numbers ∷ more)) there.1
    ∙ sym (ap (λ x. said_in x sizes' board' left' listed' end more) (stays there.0 there.1))
