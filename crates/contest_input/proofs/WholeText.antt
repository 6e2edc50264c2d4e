-- A whole board text is its header, its sections and nothing more.
use Rattle.std.proofs.Common.{◌≡◌, ℕ, zero, suc, ◌+◌, ◌-◌, ◌≤◌, ◌⊎◌, cond, ltb, Bool, true, false, List, [], ◌∷◌, ◌++◌, length, take, drop, map, Option, None, Some, Result, Ok, Err, refl, sym, ◌∙◌, ap, ⊎_elim, arith, length-drop, inl, inr}
use Rattle.std.proofs.lemmas.List.{drop-drop}
use Rattle.std.proofs.lemmas.Bool.Decides.{leb_tells}
use Rattle.std.proofs.Math.Dec.{leb-suc-suc}
use Rattle.std.proofs.Math.ListN.{drop_of_length-le}
use Rattle.std.proofs.Math.Seq.{take-nil}
use Rattle.std.proofs.lemmas.Bool.{le-ltb, lt-ltb}
use Rattle.tdm_lines.specs.Lines.{Line}
use Rattle.tdm_problem.specs.Board.{Board}
use Rattle.contest_input.specs.Kinds.{BoardRefusal}
use Rattle.contest_input.specs.declared.header.Sizes.{Sizes}
use Rattle.contest_input.specs.declared.kind.BoardKind.{BoardKind}
use Rattle.contest_input.specs.declared.kind.BoardKind.TheVariants.{MissingLine}
use Rattle.contest_input.specs.Faults.{tokens_first, sizes_of, header_fault, wire_fault, net_fault, group_fault}
use Rattle.contest_input.specs.BoardText.{refused_at, judged, first_refusal, extra_refusal, wire_row, listed_row, unless, board_of_lines}
use Rattle.contest_input.specs.Roles.{or_else, stop, in_wires}

-- a first refusal is the first judgement's, or else that of the later ones
first_refusal-cons : (r : Option BoardRefusal) (later : List (Option BoardRefusal)) (m : Option BoardRefusal)
    → or_else (first_refusal (r ∷ later)) m ≡ or_else r (or_else (first_refusal later) m)
first_refusal-cons None later m = refl
first_refusal-cons (Some r) later m = refl

-- a section is stopped by the first judgement that refuses a line, or else by a line that is missing
pub stop-section : (fault : ℕ → List ℕ → Option BoardKind) (end earlier count : ℕ) (lines : List Line)
    → stop fault end earlier count lines ≡ or_else (first_refusal (judged fault earlier (take count lines)))
    (cond (ltb (length lines) count) (Some (record { kind = MissingLine; line = end })) None)
stop-section fault end earlier zero lines = rw (le-ltb (length lines) 0 (omega arith)) refl
stop-section fault end earlier (suc left) [] = rw (lt-ltb 0 (suc left) (omega arith)) refl
stop-section fault end earlier (suc left) (line ∷ later) =
    let listed : ℕ = earlier + length line.numbers in
    let r : Option BoardRefusal =
    refused_at line.number (tokens_first line.fault (fault listed line.numbers)) in
    let missing : Bool → Option BoardRefusal =
    λ b. cond b (Some (record { kind = MissingLine; line = end })) None in
    let judgements = judged fault listed (take left later) in
    ap (or_else r) (stop-section fault end listed left later)
    ∙ ap (λ b. or_else r (or_else (first_refusal judgements) (missing b)))
    (sym (leb-suc-suc (suc (length later)) left))
    ∙ sym (first_refusal-cons r judgements (missing (ltb (suc (length later)) (suc left))))

-- a board without wires, nets and groups
abbrev pub bare : ℕ → Board
bare fpgas = record { fpgas = fpgas; wires = []; nets = []; groups = [] }

first_refusal-append : (xs ys : List (Option BoardRefusal))
    → first_refusal (xs ++ ys) ≡ or_else (first_refusal xs) (first_refusal ys)
first_refusal-append [] ys = refl
first_refusal-append (None ∷ xs) ys = first_refusal-append xs ys
first_refusal-append (Some r ∷ xs) ys = refl

drop-plus : (i j : ℕ) (lines : List Line) → drop (i + j) lines ≡ drop j (drop i lines)
drop-plus i j lines = sym (drop-drop j i lines)

-- no line of a section is judged where none is there
no_lines : (fault : ℕ → List ℕ → Option BoardKind) (count : ℕ) (lines : List Line) → lines ≡ []
    → first_refusal (judged fault 0 (take count lines)) ≡ None
no_lines fault count lines none = rw (none, take-nil count) refl

-- no line is too much where none is there
no_extra : (count : ℕ) (lines : List Line) → length lines ≤ count
    → first_refusal (map extra_refusal (drop count lines)) ≡ None
no_extra count lines short = rw (drop_of_length-le lines {i = count} short) refl

-- where lines are missing: b, c and d are the refusals of the sections after the wires
abbrev Missing : Bool → Bool → Bool → Bool → Option BoardRefusal → Option BoardRefusal → Option BoardRefusal
    → Type 0
Missing x y z t b c d =
    ((x ≡ true) × (b ≡ None) × (c ≡ None) × (d ≡ None) × (t ≡ true))
    ⊎ (((x ≡ false) × (y ≡ true) × (c ≡ None) × (d ≡ None) × (t ≡ true))
    ⊎ (((x ≡ false) × (y ≡ false) × (z ≡ true) × (d ≡ None) × (t ≡ true))
    ⊎ ((x ≡ false) × (y ≡ false) × (z ≡ false) × (t ≡ false))))

-- lines are missing from the wires on, or from the nets on, or of the groups, or not at all
missing_somewhere : (net group : ℕ → List ℕ → Option BoardKind) (wires nets groups : ℕ) (below : List Line)
    → let after_wires : List Line = drop wires below in
    let after_nets : List Line = drop nets after_wires in
    Missing (ltb (length below) wires) (ltb (length after_wires) nets) (ltb (length after_nets) groups)
    (ltb (length below) (wires + nets + groups))
    (first_refusal (judged net 0 (take nets after_wires)))
    (first_refusal (judged group 0 (take groups after_nets)))
    (first_refusal (map extra_refusal (drop groups after_nets)))
missing_somewhere net group wires nets groups below =
    let l1 : List Line = drop wires below in
    let l2 : List Line = drop nets l1 in
    let n1 : length l1 ≡ length below - wires = length-drop wires below in
    let n2 : length l2 ≡ length l1 - nets = length-drop nets l1 in
    ⊎_elim
    (λ short.
    let none1 : l1 ≡ [] = drop_of_length-le below {i = wires} (omega (arith, short.1)) in
    let none2 : l2 ≡ [] = drop_of_length-le l1 {i = nets} (omega (arith, short.1)) in
    inl (
      short.0,
      no_lines net nets l1 none1,
      no_lines group groups l2 none2,
      no_extra groups l2 (omega (arith, short.1)),
      lt-ltb _ _ (omega (arith, short.1)),
    ))
    (λ enough. inr (⊎_elim
    (λ short.
    let none2 : l2 ≡ [] = drop_of_length-le l1 {i = nets} (omega (arith, short.1)) in
    inl (
      enough.0,
      short.0,
      no_lines group groups l2 none2,
      no_extra groups l2 (omega (arith, short.1)),
      lt-ltb _ _ (omega (arith, enough.1, short.1)),
    ))
    (λ more. inr (⊎_elim
    (λ short. inl (
      enough.0,
      more.0,
      short.0,
      no_extra groups l2 (omega (arith, short.1)),
      lt-ltb _ _ (omega (arith, enough.1, more.1, short.1)),
    ))
    (λ all. inr (enough.0, more.0, all.0, le-ltb _ _ (omega (arith, enough.1, more.1, all.1))))
    (leb_tells (suc (length l2)) groups)))
    (leb_tells (suc (length l1)) nets)))
    (leb_tells (suc (length below)) wires)

-- four sections are judged in turn, and then whether a line is missing; or each section with its missing
-- lines
in_turn : (h a b c d : Option BoardRefusal) (x y z t : Bool) (missing : BoardRefusal) (board : Board)
    → Missing x y z t b c d
    → unless (or_else (or_else (or_else (or_else h a) b) c) d) (cond t (Err missing) (Ok board))
    ≡ unless h (unless (or_else a (cond x (Some missing) None))
    (unless (or_else b (cond y (Some missing) None)) (unless (or_else c (cond z (Some missing) None))
    (unless d (Ok board)))))
in_turn h a b c d x y z t missing board cases = grind arith

first_refusal-one : (r : Option BoardRefusal) → first_refusal (r ∷ []) ≡ r
first_refusal-one None = refl
first_refusal-one (Some r) = refl

-- the judgements of five lists, one after another
first_refusal-five : (h : Option BoardRefusal) (ws ns gs es : List (Option BoardRefusal))
    → first_refusal (h ∷ [] ++ ws ++ ns ++ gs ++ es)
    ≡ or_else (or_else (or_else (or_else h (first_refusal ws)) (first_refusal ns)) (first_refusal gs))
    (first_refusal es)
first_refusal-five h ws ns gs es =
    first_refusal-append (h ∷ [] ++ ws ++ ns ++ gs) es
    ∙ ap (λ r. or_else r (first_refusal es)) (first_refusal-append (h ∷ [] ++ ws ++ ns) gs
    ∙ ap (λ r. or_else r (first_refusal gs)) (first_refusal-append (h ∷ [] ++ ws) ns
    ∙ ap (λ r. or_else r (first_refusal ns)) (first_refusal-append (h ∷ []) ws
    ∙ ap (λ r. or_else r (first_refusal ws)) (first_refusal-one h))))

-- the header's refusal
abbrev pub of_header : Line → Option BoardRefusal
of_header header = refused_at header.number (tokens_first header.fault (header_fault header.numbers))

-- three sections are stopped by equal refusals
stopped-same : (h w w' n n' g g' : Option BoardRefusal) (rest : Result Board BoardRefusal) → w ≡ w' → n ≡ n'
    → g ≡ g' → unless h (unless w (unless n (unless g rest)))
    ≡ unless h (unless w' (unless n' (unless g' rest)))
stopped-same h w w' n n' g g' rest same_w same_n same_g =
    ap (λ x. unless h (unless x (unless n (unless g rest)))) same_w
    ∙ ap (λ x. unless h (unless w' (unless x (unless g rest)))) same_n
    ∙ ap (λ x. unless h (unless w' (unless n' (unless x rest)))) same_g

-- a text is its header, and then its sections
pub by_sections : (end : ℕ) (header : Line) (below : List Line) → let sizes = sizes_of header.numbers in
    board_of_lines end (header ∷ below)
    ≡ unless (of_header header) (in_wires sizes (bare sizes.fpgas) sizes.wires end below)
by_sections end header below =
    let sizes : Sizes = sizes_of header.numbers in
    let l1 : List Line = drop sizes.wires below in
    let l2 : List Line = drop sizes.nets l1 in
    let missing : BoardRefusal = record { kind = MissingLine; line = end } in
    let t : Bool = ltb (length below) (sizes.wires + sizes.nets + sizes.groups) in
    let ws : List (Option BoardRefusal) = judged (λ _. wire_fault sizes.fpgas) 0 (take sizes.wires below) in
    let ns : List (Option BoardRefusal) = judged (net_fault sizes.fpgas) 0 (take sizes.nets l1) in
    let gs : List Line → List (Option BoardRefusal) =
    λ lines. judged (group_fault sizes.nets) 0 (take sizes.groups lines) in
    let board : List Line → Board = λ lines. record {
      fpgas = sizes.fpgas;
      wires = map wire_row (take sizes.wires below);
      nets = map listed_row (take sizes.nets l1);
      groups = map listed_row (take sizes.groups lines);
    } in
    let said : List Line → List Line → Result Board BoardRefusal =
    λ lines extra. unless
    (first_refusal (of_header header ∷ [] ++ ws ++ ns ++ gs lines ++ map extra_refusal extra))
    (cond t (Err missing) (Ok (board lines))) in
    let last : Option BoardRefusal = first_refusal (map extra_refusal (drop sizes.groups l2)) in
    let groups_are : drop (sizes.wires + sizes.nets) below ≡ l2 = drop-plus sizes.wires sizes.nets below in
    let extra_is : drop (sizes.wires + sizes.nets + sizes.groups) below ≡ drop sizes.groups l2 =
    drop-plus (sizes.wires + sizes.nets) sizes.groups below ∙ ap (drop sizes.groups) groups_are in
    ap (λ lines. said lines (drop (sizes.wires + sizes.nets + sizes.groups) below)) groups_are
    ∙ ap (said l2) extra_is
    ∙ ap (λ r. unless r (cond t (Err missing) (Ok (board l2)))) (first_refusal-five (of_header header) ws ns
    (gs l2) (map extra_refusal (drop sizes.groups l2)))
    ∙ in_turn (of_header header) (first_refusal ws) (first_refusal ns) (first_refusal (gs l2)) last _ _ _ t
    missing (board l2)
    (missing_somewhere (net_fault sizes.fpgas) (group_fault sizes.nets) sizes.wires sizes.nets sizes.groups
    below)
    ∙ stopped-same (of_header header) _ _ _ _ _ _ (unless last (Ok (board l2)))
    (sym (stop-section (λ _. wire_fault sizes.fpgas) end 0 sizes.wires below))
    (sym (stop-section (net_fault sizes.fpgas) end 0 sizes.nets l1))
    (sym (stop-section (group_fault sizes.nets) end 0 sizes.groups l2))
