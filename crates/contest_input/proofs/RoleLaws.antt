-- A section line by line, and the sections of a board text in turn.
use Rattle.std.proofs.Common.{◌≡◌, ℕ, zero, suc, ◌+◌, ◌-◌, ◌<◌, List, [], ◌∷◌, ◌++◌, length, take, drop, map, Option, None, Some, Result, Err, refl, sym, ◌∙◌, ap, arith, append_assoc}
use Rattle.std.proofs.lemmas.List.{append-nil}
use Rattle.tdm_lines.specs.Lines.{Line}
use Rattle.tdm_problem.specs.Board.{Board, without_repeats}
use Rattle.tdm_problem.specs.declared.wire.Wire.{Wire}
use Rattle.contest_input.specs.Kinds.{BoardRefusal}
use Rattle.contest_input.specs.declared.header.Sizes.{Sizes}
use Rattle.contest_input.specs.declared.kind.BoardKind.{BoardKind}
use Rattle.contest_input.specs.declared.kind.BoardKind.TheVariants.{MissingLine}
use Rattle.contest_input.specs.Faults.{tokens_first, wire_of, wire_fault, net_fault, group_fault}
use Rattle.contest_input.specs.BoardText.{refused_at, unless}
use Rattle.contest_input.specs.Roles.{or_else, stop, in_section, at_end, in_groups, in_nets, in_wires}

module _ {R : Type 0} (fault : ℕ → List ℕ → Option BoardKind) (row : List ℕ → R) (next : List R → List Line
    → Result Board BoardRefusal) (end : ℕ) where
  -- a section with no line left
  pub section-none : (listed : ℕ) (rows : List R) (lines : List Line)
      → in_section fault row next end 0 listed rows lines ≡ next rows lines
  section-none listed rows lines = ap (λ rs. next rs lines) (append-nil rows)

  -- with one line without fault
  pub section-take : (left listed : ℕ) (rows : List R) (line : Line) (later : List Line)
      → tokens_first line.fault (fault (listed + length line.numbers) line.numbers) ≡ None
      → in_section fault row next end (suc left) listed rows (line ∷ later)
      ≡ in_section fault row next end left (listed + length line.numbers) (rows ++ row line.numbers ∷ [])
      later
  section-take left listed rows line later none =
      let more : List R = map (λ (l : Line). row l.numbers) (take left later) in
      let rest : Option BoardRefusal = stop fault end (listed + length line.numbers) left later in
      ap (λ k. unless (or_else (refused_at line.number k) rest)
      (next (rows ++ row line.numbers ∷ more) (drop left later))) none
      ∙ ap (λ rs. unless rest (next rs (drop left later)))
      (sym (append_assoc rows (row line.numbers ∷ []) more))

  -- with a line at fault
  pub section-refused : (left listed : ℕ) (rows : List R) (line : Line) (later : List Line) (kind : BoardKind)
      → tokens_first line.fault (fault (listed + length line.numbers) line.numbers) ≡ Some kind
      → in_section fault row next end (suc left) listed rows (line ∷ later)
      ≡ Err (record { kind = kind; line = line.number })
  section-refused left listed rows line later kind is =
      ap (λ k. unless (or_else (refused_at line.number k)
      (stop fault end (listed + length line.numbers) left later))
      (next (rows ++ row line.numbers ∷ map (λ (l : Line). row l.numbers) (take left later))
      (drop left later))) is

  -- with a line missing
  pub section-missing : (left listed : ℕ) (rows : List R)
      → in_section fault row next end (suc left) listed rows []
      ≡ Err (record { kind = MissingLine; line = end })
  section-missing left listed rows = refl

-- how many numbers the earlier lines have is nothing to a fault that does not read it
pub stop-any : (fault : List ℕ → Option BoardKind) (end a b left : ℕ) (lines : List Line)
    → stop (λ _. fault) end a left lines ≡ stop (λ _. fault) end b left lines
stop-any fault end a b zero lines = refl
stop-any fault end a b (suc left) [] = refl
stop-any fault end a b (suc left) (line ∷ later) =
    ap (λ r. or_else (refused_at line.number (tokens_first line.fault (fault line.numbers))) r)
    (stop-any fault end (a + length line.numbers) (b + length line.numbers) left later)

one_less : (left : ℕ) → 0 < left → left ≡ suc (left - 1)
one_less left some = omega arith

-- a wire line without fault is taken
pub wires-take : (sizes : Sizes) (board board' : Board) (left end : ℕ) (line : Line) (more : List Line)
    → 0 < left → tokens_first line.fault (wire_fault sizes.fpgas line.numbers) ≡ None
    → board' ≡ record board { wires = board.wires ++ wire_of line.numbers ∷ [] }
    → in_wires sizes board left end (line ∷ more) ≡ in_wires sizes board' (left - 1) end more
wires-take sizes board board' left end line more some none is =
    let next : List Wire → List Line → Result Board BoardRefusal =
    λ rows. in_nets sizes (record board { wires = rows }) sizes.nets 0 end in
    let wires : List Wire = board.wires ++ wire_of line.numbers ∷ [] in
    ap (λ k. in_section (λ _. wire_fault sizes.fpgas) wire_of next end k 0 board.wires (line ∷ more))
    (one_less left some)
    ∙ section-take (λ _. wire_fault sizes.fpgas) wire_of next end (left - 1) 0 board.wires line more none
    ∙ ap (λ w. unless w (next (wires ++ map (λ (l : Line). wire_of l.numbers) (take (left - 1) more))
    (drop (left - 1) more))) (stop-any (wire_fault sizes.fpgas) end (0 + length line.numbers) 0
    (left - 1) more)
    ∙ ap (λ (b : Board). in_wires sizes b (left - 1) end more) (sym is)

-- a net line without fault is taken
pub nets-take : (sizes : Sizes) (board board' : Board) (left listed listed' end : ℕ) (line : Line)
    (more : List Line) → 0 < left
    → tokens_first line.fault (net_fault sizes.fpgas (listed + length line.numbers) line.numbers) ≡ None
    → listed' ≡ listed + length line.numbers
    → board' ≡ record board { nets = board.nets ++ without_repeats line.numbers ∷ [] }
    → in_nets sizes board left listed end (line ∷ more) ≡ in_nets sizes board' (left - 1) listed' end more
nets-take sizes board board' left listed listed' end line more some none counted is =
    let next : List (List ℕ) → List Line → Result Board BoardRefusal =
    λ rows. in_groups sizes (record board { nets = rows }) sizes.groups 0 end in
    ap (λ k. in_section (net_fault sizes.fpgas) without_repeats next end k listed board.nets (line ∷ more))
    (one_less left some)
    ∙ section-take (net_fault sizes.fpgas) without_repeats next end (left - 1) listed board.nets line more
    none
    ∙ ap (λ k. in_section (net_fault sizes.fpgas) without_repeats next end (left - 1) k
    (board.nets ++ without_repeats line.numbers ∷ []) more) (sym counted)
    ∙ ap (λ (b : Board). in_nets sizes b (left - 1) listed' end more) (sym is)

-- a group line without fault is taken
pub groups-take : (sizes : Sizes) (board board' : Board) (left listed listed' end : ℕ) (line : Line)
    (more : List Line) → 0 < left
    → tokens_first line.fault (group_fault sizes.nets (listed + length line.numbers) line.numbers) ≡ None
    → listed' ≡ listed + length line.numbers
    → board' ≡ record board { groups = board.groups ++ without_repeats line.numbers ∷ [] }
    → in_groups sizes board left listed end (line ∷ more) ≡ in_groups sizes board' (left - 1) listed' end more
groups-take sizes board board' left listed listed' end line more some none counted is =
    let next : List (List ℕ) → List Line → Result Board BoardRefusal =
    λ rows. at_end (record board { groups = rows }) in
    ap (λ k. in_section (group_fault sizes.nets) without_repeats next end k listed board.groups (line ∷ more))
    (one_less left some)
    ∙ section-take (group_fault sizes.nets) without_repeats next end (left - 1) listed board.groups line more
    none
    ∙ ap (λ k. in_section (group_fault sizes.nets) without_repeats next end (left - 1) k
    (board.groups ++ without_repeats line.numbers ∷ []) more) (sym counted)
    ∙ ap (λ (b : Board). in_groups sizes b (left - 1) listed' end more) (sym is)

-- where no line of a section is left, the next one begins
pub wires-done : (sizes : Sizes) (board : Board) (left end : ℕ) (more : List Line) → left ≡ 0
    → in_wires sizes board left end more ≡ in_nets sizes board sizes.nets 0 end more
wires-done sizes board left end more none = ap (λ k. in_wires sizes board k end more) none
    ∙ section-none (λ _. wire_fault sizes.fpgas) wire_of
    (λ rows. in_nets sizes (record board { wires = rows }) sizes.nets 0 end) end 0 board.wires more

pub nets-done : (sizes : Sizes) (board : Board) (left listed end : ℕ) (more : List Line) → left ≡ 0
    → in_nets sizes board left listed end more ≡ in_groups sizes board sizes.groups 0 end more
nets-done sizes board left listed end more none = ap (λ k. in_nets sizes board k listed end more) none
    ∙ section-none (net_fault sizes.fpgas) without_repeats
    (λ rows. in_groups sizes (record board { nets = rows }) sizes.groups 0 end) end listed board.nets more

pub groups-done : (sizes : Sizes) (board : Board) (left listed end : ℕ) (more : List Line) → left ≡ 0
    → in_groups sizes board left listed end more ≡ at_end board more
groups-done sizes board left listed end more none = ap (λ k. in_groups sizes board k listed end more) none
    ∙ section-none (group_fault sizes.nets) without_repeats (λ rows. at_end (record board { groups = rows }))
    end listed board.groups more
