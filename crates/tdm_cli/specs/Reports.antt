-- The texts that the program says. Each line ends with a line feed.
use Rattle.std.specs.Prelude.{ℕ, List, [], ◌∷◌, ◌++◌, length, codes}
use Rattle.std.specs.List.{flat_map}
use Rattle.tdm_problem.specs.Board.{Board}
use Rattle.solution_eval.specs.declared.judgement.Verdict.{Verdict}
use Rattle.solution_eval.specs.declared.judgement.Verdict.TheVariants.{Legal, NotJoined, BadRatio, Overfull}
use Rattle.cert_checker.specs.declared.steep.Steep.{Steep}
use Rattle.cert_checker.specs.declared.answer.CheckAnswer.{CheckAnswer}
use Rattle.cert_checker.specs.declared.answer.CheckAnswer.TheVariants.{Accepted, Rejected}
use Rattle.command_run.specs.Reports.{counted, numbered, refused_report}

-- what a solution is worth
abbrev pub value_report : ℕ → List ℕ
value_report value = numbered (codes "value ") value

-- what no legal solution's value is below
abbrev pub bound_report : ℕ → List ℕ
bound_report bound = numbered (codes "bound ") bound

-- what the written solution is worth, and the bound of the written certificate
abbrev pub route_report : (value bound : ℕ) → List ℕ
route_report value bound = value_report value ++ bound_report bound

-- how large a board is
abbrev pub size_report : Board → List ℕ
size_report board = counted (codes "fpgas ") board.fpgas ++ (counted (codes " wires ") (length board.wires)
    ++ (counted (codes " nets ") (length board.nets) ++ numbered (codes " groups ") (length board.groups)))

-- how large the board is, what the written solution is worth, and the bound of the written certificate
abbrev pub demo_report : Board → (value bound : ℕ) → List ℕ
demo_report board value bound = size_report board ++ route_report value bound

-- the words are no command
abbrev pub usage_report : List ℕ
usage_report = codes "words refused" ++ 10 ∷ []

-- the board text is refused
abbrev pub board_refused_report : List ℕ → ℕ → List ℕ
board_refused_report = refused_report (codes "board refused ")

-- the solution text is refused
abbrev pub solution_refused_report : List ℕ → ℕ → List ℕ
solution_refused_report = refused_report (codes "solution refused ")

-- the certificate text is refused
abbrev pub cert_refused_report : List ℕ → ℕ → List ℕ
cert_refused_report = refused_report (codes "certificate refused ")

-- a line for each net that no wires join
abbrev pub unconnectable_report : List ℕ → List ℕ
unconnectable_report nets = flat_map (numbered (codes "unconnectable net ")) nets

-- the solution would have more uses than it may
abbrev pub use_limit_report : List ℕ
use_limit_report = codes "too many uses" ++ 10 ∷ []

-- what a solution is judged to be: its value, or its first violation
abbrev pub verdict_report : Verdict → List ℕ
verdict_report (Legal value) = value_report value
verdict_report (NotJoined net) = counted (codes "illegal net ") net ++ (codes " not joined" ++ 10 ∷ [])
verdict_report (BadRatio net wire ratio) = counted (codes "illegal net ") net
    ++ (counted (codes " wire ") wire ++ numbered (codes " ratio ") ratio)
verdict_report (Overfull wire) = counted (codes "illegal wire ") wire ++ (codes " overfull" ++ 10 ∷ [])

-- a potential of a certificate, and a wire along which it is too steep
abbrev pub steep_report : Steep → List ℕ
steep_report pair = counted (codes "steep potential ") pair.potential ++ numbered (codes " wire ") pair.wire

-- what a certificate is checked to be: its bound, or its first steep pair
abbrev pub answer_report : CheckAnswer → List ℕ
answer_report (Accepted bound) = bound_report bound
answer_report (Rejected pair) = steep_report pair
