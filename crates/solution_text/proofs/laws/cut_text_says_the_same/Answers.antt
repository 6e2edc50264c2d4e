use Rattle.std.proofs.Common.{◌≡◌, ℕ, ◌+◌, ◌<◌, ◌^◌, List, length, take, refl, ap, ⊎_elim, arith, length-take-le}
use Rattle.std.proofs.lemmas.Bool.{lt-ltb, cases_lt}
use Rattle.std.proofs.lemmas.List.{take_all}
use Rattle.tdm_problem.specs.Board.{Board}
use Rattle.solution_text.specs.Reading.{solution_of}
use Rattle.solution_text.proofs.laws.cut_text_says_the_same.Goals as goal

-- a text that is too long is so when it is cut, too
long : (board : Board) (text : List ℕ) → 2 ^ 30 < length text → solution_of board (take (2 ^ 30 + 1) text)
    ≡ solution_of board text
long board text above =
    let cut : length (take (2 ^ 30 + 1) text) ≡ 2 ^ 30 + 1 =
    length-take-le (2 ^ 30 + 1) text (omega (arith, above)) in
    rw (
      lt-ltb (2 ^ 30) (length (take (2 ^ 30 + 1) text)) (omega (arith, cut)),
      lt-ltb (2 ^ 30) (length text) above,
    ) refl

pub returns : goal.returns
returns c = λ board text. ⊎_elim (λ above. long board text above)
    (λ short. ap (solution_of board) (take_all (2 ^ 30 + 1) text (omega (arith, short))))
    (cases_lt (2 ^ 30) (length text))
