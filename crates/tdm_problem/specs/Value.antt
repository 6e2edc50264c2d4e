use Rattle.std.specs.Prelude.{ℕ, max, List, [], ◌∷◌, map, sum, sum_by}
use Rattle.tdm_problem.specs.Board.{Board}
use Rattle.tdm_problem.specs.Routing.{Routing, uses_of, ratios_of}

-- the sum of the ratios of net n
abbrev pub net_sum : Routing → ℕ → ℕ
net_sum routing n = sum (ratios_of (uses_of routing n))

-- the sum of the ratios of the nets that a group lists; on a board that was read a group lists no net twice,
-- since reading drops a repeat
abbrev pub group_sum : Routing → List ℕ → ℕ
group_sum routing group = sum_by (net_sum routing) group

-- the largest of the numbers, 0 of none
abbrev pub largest : List ℕ → ℕ
largest [] = 0
largest (x ∷ xs) = max x (largest xs)

-- the largest sum of a group, which is what a solution is judged by
abbrev pub value_of : Board → Routing → ℕ
value_of board routing = largest (map (group_sum routing) board.groups)
