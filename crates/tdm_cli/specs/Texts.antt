-- The texts that commands write.
use Rattle.tdm_desk.specs.Files.{Bytes}
use Rattle.contest_input.specs.Canonical.{board_text}
use Rattle.solution_text.specs.Text.{solution_text}
use Rattle.bound_cert.specs.CertText.{cert_text}
use Rattle.tdm_cli.specs.declared.writing.Output.{Output}
use Rattle.tdm_cli.specs.declared.writing.Output.TheVariants.{Solution, Cert, Board}

-- the bytes of an output
abbrev pub text_of : Output → Bytes
text_of (Solution solution) = solution_text solution
text_of (Cert cert) = cert_text cert
text_of (Board board) = board_text board
