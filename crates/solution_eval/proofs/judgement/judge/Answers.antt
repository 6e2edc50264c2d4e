use Rattle.std.proofs.Common.{ℕ, length, subst}
use Rattle.solution_eval.specs.declared.judgement.Verdict.TheVariants.{Legal, NotJoined, BadRatio, Overfull}
use Rattle.solution_eval.specs.Violations.{IsJoined, HasEvenRatios, IsFitting, AllBelow, IsFirstWithout}
use Rattle.solution_eval.specs.Verdict.{IsVerdict}
use Rattle.solution_eval.proofs.VerdictLaws.{legal_from, verdict_unique, verdict_legal, found_none, found_some}
use Rattle.solution_eval.proofs.judgement.judge.Goals as goal

pub returns-in-Some-clause-legal : goal.returns-in-Some-clause-legal
returns-in-Some-clause-legal c =
    let right : IsVerdict c.args.problem.now c.args.solution.now (NotJoined c.in-Some.net) =
    found_some c.in_ok-net.field-0 c.in-Some.net (AllBelow (IsJoined c.args.problem.now c.args.solution.now)
    (length c.args.problem.now.nets))
    (IsFirstWithout (IsJoined c.args.problem.now c.args.solution.now) (length c.args.problem.now.nets))
    c.in-Some.is c.in_ok-net.ensures in
    verdict_legal c.args.problem.now c.args.solution.now (NotJoined c.in-Some.net) right

pub returns-in-Some-clause-only : goal.returns-in-Some-clause-only
returns-in-Some-clause-only c = λ other other_right.
    let right : IsVerdict c.args.problem.now c.args.solution.now (NotJoined c.in-Some.net) =
    found_some c.in_ok-net.field-0 c.in-Some.net (AllBelow (IsJoined c.args.problem.now c.args.solution.now)
    (length c.args.problem.now.nets))
    (IsFirstWithout (IsJoined c.args.problem.now c.args.solution.now) (length c.args.problem.now.nets))
    c.in-Some.is c.in_ok-net.ensures in
    verdict_unique c.args.problem.now c.args.solution.now c.requires (NotJoined c.in-Some.net) other right
    other_right

pub returns-in-Some-first_bad_use-clause-legal : goal.returns-in-Some-first_bad_use-clause-legal
returns-in-Some-first_bad_use-clause-legal c =
    let joined : AllBelow (IsJoined c.args.problem.now c.args.solution.now) (length c.args.problem.now.nets) =
    found_none c.in_ok-net.field-0 (AllBelow (IsJoined c.args.problem.now c.args.solution.now)
    (length c.args.problem.now.nets))
    (IsFirstWithout (IsJoined c.args.problem.now c.args.solution.now) (length c.args.problem.now.nets))
    c.in_default.is c.in_ok-net.ensures in
    verdict_legal c.args.problem.now c.args.solution.now
    (BadRatio c.in-Some-first_bad_use.bad.net c.in-Some-first_bad_use.bad.wire_use.wire
    c.in-Some-first_bad_use.bad.wire_use.ratio) (joined, c.in-Some-first_bad_use.ensures)

pub returns-in-Some-first_bad_use-clause-only : goal.returns-in-Some-first_bad_use-clause-only
returns-in-Some-first_bad_use-clause-only c = λ other other_right.
    let joined : AllBelow (IsJoined c.args.problem.now c.args.solution.now) (length c.args.problem.now.nets) =
    found_none c.in_ok-net.field-0 (AllBelow (IsJoined c.args.problem.now c.args.solution.now)
    (length c.args.problem.now.nets))
    (IsFirstWithout (IsJoined c.args.problem.now c.args.solution.now) (length c.args.problem.now.nets))
    c.in_default.is c.in_ok-net.ensures in
    verdict_unique c.args.problem.now c.args.solution.now c.requires
    (BadRatio c.in-Some-first_bad_use.bad.net c.in-Some-first_bad_use.bad.wire_use.wire
    c.in-Some-first_bad_use.bad.wire_use.ratio) other (
      joined,
      c.in-Some-first_bad_use.ensures,
    ) other_right

pub returns-in-Some-2-clause-only : goal.returns-in-Some-2-clause-only
returns-in-Some-2-clause-only c = λ other other_right.
    let joined : AllBelow (IsJoined c.args.problem.now c.args.solution.now) (length c.args.problem.now.nets) =
    found_none c.in_ok-net.field-0 (AllBelow (IsJoined c.args.problem.now c.args.solution.now)
    (length c.args.problem.now.nets))
    (IsFirstWithout (IsJoined c.args.problem.now c.args.solution.now) (length c.args.problem.now.nets))
    c.in_default.is c.in_ok-net.ensures in
    let even : AllBelow (HasEvenRatios c.args.solution.now) (length c.args.problem.now.nets) =
    subst (λ (n : ℕ). AllBelow (HasEvenRatios c.args.solution.now) n) c.requires.nets
    c.in_default-first_bad_use.ensures in
    let overfull : IsFirstWithout (IsFitting c.args.problem.now c.args.solution.now)
    (length c.args.problem.now.wires) c.in-Some-2.wire =
    found_some c.in_ok-wire.field-0 c.in-Some-2.wire
    (AllBelow (IsFitting c.args.problem.now c.args.solution.now) (length c.args.problem.now.wires))
    (IsFirstWithout (IsFitting c.args.problem.now c.args.solution.now) (length c.args.problem.now.wires))
    c.in-Some-2.is c.in_ok-wire.ensures in
    verdict_unique c.args.problem.now c.args.solution.now c.requires (Overfull c.in-Some-2.wire) other
    (joined, even, overfull) other_right

pub returns-clause-verdict : goal.returns-clause-verdict
returns-clause-verdict c =
    let joined : AllBelow (IsJoined c.args.problem.now c.args.solution.now) (length c.args.problem.now.nets) =
    found_none c.in_ok-net.field-0 (AllBelow (IsJoined c.args.problem.now c.args.solution.now)
    (length c.args.problem.now.nets))
    (IsFirstWithout (IsJoined c.args.problem.now c.args.solution.now) (length c.args.problem.now.nets))
    c.in_default.is c.in_ok-net.ensures in
    let fits : AllBelow (IsFitting c.args.problem.now c.args.solution.now) (length c.args.problem.now.wires) =
    found_none c.in_ok-wire.field-0 (AllBelow (IsFitting c.args.problem.now c.args.solution.now)
    (length c.args.problem.now.wires))
    (IsFirstWithout (IsFitting c.args.problem.now c.args.solution.now) (length c.args.problem.now.wires))
    c.in_default-2.is c.in_ok-wire.ensures in (
      legal_from c.args.problem.now c.args.solution.now c.requires joined c.in_default-first_bad_use.ensures
          fits,
      c.in_ok-value.ensures,
    )

pub returns-clause-legal : goal.returns-clause-legal
returns-clause-legal c =
    let joined : AllBelow (IsJoined c.args.problem.now c.args.solution.now) (length c.args.problem.now.nets) =
    found_none c.in_ok-net.field-0 (AllBelow (IsJoined c.args.problem.now c.args.solution.now)
    (length c.args.problem.now.nets))
    (IsFirstWithout (IsJoined c.args.problem.now c.args.solution.now) (length c.args.problem.now.nets))
    c.in_default.is c.in_ok-net.ensures in
    let fits : AllBelow (IsFitting c.args.problem.now c.args.solution.now) (length c.args.problem.now.wires) =
    found_none c.in_ok-wire.field-0 (AllBelow (IsFitting c.args.problem.now c.args.solution.now)
    (length c.args.problem.now.wires))
    (IsFirstWithout (IsFitting c.args.problem.now c.args.solution.now) (length c.args.problem.now.wires))
    c.in_default-2.is c.in_ok-wire.ensures in (
      λ _. legal_from c.args.problem.now c.args.solution.now c.requires joined
          c.in_default-first_bad_use.ensures fits,
      λ _. tt,
    )

pub returns-clause-only : goal.returns-clause-only
returns-clause-only c = λ other other_right.
    let joined : AllBelow (IsJoined c.args.problem.now c.args.solution.now) (length c.args.problem.now.nets) =
    found_none c.in_ok-net.field-0 (AllBelow (IsJoined c.args.problem.now c.args.solution.now)
    (length c.args.problem.now.nets))
    (IsFirstWithout (IsJoined c.args.problem.now c.args.solution.now) (length c.args.problem.now.nets))
    c.in_default.is c.in_ok-net.ensures in
    let fits : AllBelow (IsFitting c.args.problem.now c.args.solution.now) (length c.args.problem.now.wires) =
    found_none c.in_ok-wire.field-0 (AllBelow (IsFitting c.args.problem.now c.args.solution.now)
    (length c.args.problem.now.wires))
    (IsFirstWithout (IsFitting c.args.problem.now c.args.solution.now) (length c.args.problem.now.wires))
    c.in_default-2.is c.in_ok-wire.ensures in
    verdict_unique c.args.problem.now c.args.solution.now c.requires (Legal c.in_ok-value.field-0) other (
      legal_from c.args.problem.now c.args.solution.now c.requires joined c.in_default-first_bad_use.ensures
          fits,
      c.in_ok-value.ensures,
    ) other_right
