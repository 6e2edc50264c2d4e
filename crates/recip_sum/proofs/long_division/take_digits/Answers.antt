use Rattle.std.proofs.Common.{◌≡◌, ◌+◌, ◌*◌, get_or, arith, ap, refl}
use Rattle.std.proofs.lemmas.List.Sums.{sum_by-take-le}
use Rattle.std.proofs.lemmas.List.{get_or_default}
use Rattle.recip_sum.specs.declared.long_division.Term.{Term}
use Rattle.recip_sum.specs.LongDivision.{after_digit, digit_of}
use Rattle.recip_sum.proofs.Turns.{one_more_digit, digits_sum-le}
use Rattle.recip_sum.proofs.long_division.take_digits.Goals as goal

pub overflow_add-sum : goal.overflow_add-sum
overflow_add-sum g c =
    let i = c.loop-term.term-index in
    let d : Term = record { ratio = 0; count = 0; remainder = 0 } in
    let t : Term = get_or c.loop-term.terms i d in
    let read : t ≡ get_or c.loop-term.terms i t = get_or_default c.loop-term.terms i d t (omega arith) in
    let more = one_more_digit c.args.terms.now c.loop-term.terms i c.loop-term.sum c.args.steps.now
    c.loop-term.steps t c.divide-taken.result.digit (after_digit t) c.loop-term-test.true
    c.loop-term.invariant read c.divide-taken.ensures.digit refl in
    let digits = more.digits in
    let part = sum_by-take-le (λ (t : Term). t.count * digit_of t) c.args.terms.now (i + 1) in
    let whole = digits_sum-le c.args.terms.now c.requires.terms in
    omega arith

pub loop-term-preserved : goal.loop-term-preserved
loop-term-preserved g c =
    let i = c.loop-term.term-index in
    let d : Term = record { ratio = 0; count = 0; remainder = 0 } in
    let t : Term = get_or c.loop-term.terms i d in
    let read : t ≡ get_or c.loop-term.terms i t = get_or_default c.loop-term.terms i d t (omega arith) in
    let next : record t { remainder = c.divide-taken.result.remainder } ≡ after_digit t =
    ap (λ r. record t { remainder = r }) c.divide-taken.ensures.remainder in
    rw c.divide-taken.ensures.step (one_more_digit c.args.terms.now c.loop-term.terms i c.loop-term.sum
    c.args.steps.now c.loop-term.steps t c.divide-taken.result.digit
    (record t { remainder = c.divide-taken.result.remainder }) c.loop-term-test.true c.loop-term.invariant
    read c.divide-taken.ensures.digit next)
