-- A text that is too long is refused for that.
use Rattle.std.proofs.Common.{ℕ, List, length, cond, ltb, Result, refl}
use Rattle.std.proofs.lemmas.Bool.{lt-ltb}
use Rattle.tdm_lines.specs.Reader.{IsTooLong}
use Rattle.tdm_lines.specs.Refusals.{IsFaultOf, refused}
use Rattle.tdm_lines.specs.declared.refusal.Refusal.{Refusal}
use Rattle.tdm_lines.specs.declared.refusal.ReadingFault.{ReadingFault}
use Rattle.tdm_lines.specs.declared.refusal.ReadingFault.TheVariants.{Refused, NoMemory}

pub too-long : {A K : Type 0} (most : ℕ) (kind : K) (text : List ℕ) (rest : Result A (Refusal K))
    (fault : ReadingFault K) → IsTooLong most kind text fault
    → IsFaultOf fault (cond (ltb most (length text)) (refused kind 0) rest)
too-long most kind text rest NoMemory long = tt
too-long most kind text rest (Refused refusal) long = rw (lt-ltb most (length text) long.0, long.1) refl
