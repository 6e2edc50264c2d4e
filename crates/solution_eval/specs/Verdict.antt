use Rattle.std.specs.Prelude.{◌≡◌, length}
use Rattle.tdm_problem.specs.Board.{Board}
use Rattle.tdm_problem.specs.Routing.{Routing}
use Rattle.tdm_problem.specs.Legal.{IsLegal}
use Rattle.tdm_problem.specs.Value.{value_of}
use Rattle.solution_eval.specs.declared.judgement.Verdict.{Verdict}
use Rattle.solution_eval.specs.declared.judgement.Verdict.TheVariants.{Legal, NotJoined, BadRatio, Overfull}
use Rattle.solution_eval.specs.Violations.{IsJoined, HasEvenRatios, IsFitting, AllBelow, IsFirstWithout, IsFirstBadUse}

-- the verdict is right: legal with the value, or the first violation, nets not joined before bad ratios, and
-- these before overfull wires
abbrev pub IsVerdict : Board → Routing → Verdict → Type 0
IsVerdict board routing (Legal value) = IsLegal board routing × (value ≡ value_of board routing)
IsVerdict board routing (NotJoined net) = IsFirstWithout (IsJoined board routing) (length board.nets) net
IsVerdict board routing (BadRatio net wire ratio) =
    AllBelow (IsJoined board routing) (length board.nets)
    × IsFirstBadUse routing net (record { wire = wire; ratio = ratio })
IsVerdict board routing (Overfull wire) =
    AllBelow (IsJoined board routing) (length board.nets)
    × AllBelow (HasEvenRatios routing) (length board.nets)
    × IsFirstWithout (IsFitting board routing) (length board.wires) wire

-- the verdict says that the solution is legal
abbrev pub SaysLegal : Verdict → Type 0
SaysLegal (Legal value) = Unit {0}
SaysLegal (NotJoined net) = ⊥
SaysLegal (BadRatio net wire ratio) = ⊥
SaysLegal (Overfull wire) = ⊥
