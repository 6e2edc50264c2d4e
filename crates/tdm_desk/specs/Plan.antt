-- Failures that are planned for later calls of a desk.
use Rattle.std.specs.Prelude.{◌≡◌, ◌==◌, ◌-◌, ℕ, Bool, List, map, All}
use Rattle.std.specs.List.{list_any}
use Rattle.tdm_desk.specs.declared.plan.Plan.{Plan}

-- whether the next call fails, of failures each by how many calls from now it comes, 0 where it has come
unfoldable pub fails_next : List ℕ → Bool
fails_next calls = list_any (λ call. call == 1) calls

-- after one more call each failure is nearer by one
unfoldable pub after_call : List ℕ → List ℕ
after_call calls = map (λ call. call - 1) calls

-- no failure is still to come
abbrev pub AllCame : List ℕ → Type 0
AllCame calls = All (λ call. call ≡ 0) calls

-- no call that is planned to fail is still to come
pub record NoneToCome (plan : Plan) : Type 0 where
  pub reading : AllCame plan.reading
  pub writing : AllCame plan.writing

-- the plan after a call that opens or reads an input
abbrev pub after_reading : Plan → Plan
after_reading plan = record plan { reading = after_call plan.reading }

-- the plan after a call that creates, writes, finishes or says
abbrev pub after_writing : Plan → Plan
after_writing plan = record plan { writing = after_call plan.writing }
