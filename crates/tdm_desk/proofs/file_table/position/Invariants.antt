use Rattle.std.proofs.Common.{◌≢◌, string_bytes}
use Rattle.std.specs.List.{AllWithin}
use Rattle.tdm_desk.proofs.file_table.position.Given as goal

abbrev pub invariant-loop-at : goal.invariant-loop-at
invariant-loop-at l = AllWithin (λ file. string_bytes file.name ≢ l.name) l.entries 0 l.at
