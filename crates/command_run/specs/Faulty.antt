-- What a fault of a text says of it.
use Rattle.std.specs.Prelude.{◌≡◌, Result, Err}
use Rattle.command_run.specs.declared.text.TextFault.{TextFault}
use Rattle.command_run.specs.declared.text.TextFault.TheVariants.{Refused, NoMemory}

-- the text is refused so, or memory was wanting
abbrev pub IsFaultOf : {V R : Type 0} → Result V R → TextFault R → Type 0
IsFaultOf said (Refused refusal) = said ≡ Err refusal
IsFaultOf said NoMemory = Unit {0}
