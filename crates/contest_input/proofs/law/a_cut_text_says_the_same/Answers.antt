use Rattle.std.proofs.Common.{◌≡◌, ℕ, ◌+◌, ◌^◌, ◌<◌, List, length, take, refl, ap, ⊎_elim, arith, length-take-le}
use Rattle.std.proofs.lemmas.Bool.{lt-ltb, cases_lt}
use Rattle.std.proofs.lemmas.List.{take_all}
use Rattle.contest_input.specs.BoardText.{board_of}
use Rattle.contest_input.proofs.law.a_cut_text_says_the_same.Goals as goal

long : (text : List ℕ) → 2 ^ 28 < length text → board_of (take (2 ^ 28 + 1) text) ≡ board_of text
long text above =
    let cut : length (take (2 ^ 28 + 1) text) ≡ 2 ^ 28 + 1 =
    length-take-le (2 ^ 28 + 1) text (omega (arith, above)) in
    rw (
      lt-ltb (2 ^ 28) (length (take (2 ^ 28 + 1) text)) (omega (arith, cut)),
      lt-ltb (2 ^ 28) (length text) above,
    ) refl

pub returns : goal.returns
returns c = λ text. ⊎_elim (λ above. long text above)
    (λ short. ap board_of (take_all (2 ^ 28 + 1) text (omega (arith, short))))
    (cases_lt (2 ^ 28) (length text))
