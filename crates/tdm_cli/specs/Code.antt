use Rattle.std.specs.Prelude.{ℕ}
use Rattle.tdm_cli.specs.declared.status.Status.{Status}
use Rattle.tdm_cli.specs.declared.status.Status.TheVariants as status

-- the number that the process ends with
abbrev pub code_of : Status → ℕ
code_of status.Ok = 0
code_of status.BoardRefused = 1
code_of status.Usage = 2
code_of status.Unconnectable = 3
code_of status.ReadFault = 4
code_of status.WriteFault = 5
code_of status.OutOfMemory = 6
code_of status.SolutionRefused = 7
code_of status.Illegal = 8
code_of status.CertRefused = 9
code_of status.CertRejected = 10
code_of status.UseLimit = 11
code_of status.NoInput = 14
