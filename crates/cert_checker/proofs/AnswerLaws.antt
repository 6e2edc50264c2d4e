-- a right answer is the only one
use Rattle.std.proofs.Common.{◌≡◌, ℕ, ap}
use Rattle.tdm_problem.specs.Board.{Board}
use Rattle.bound_cert.specs.Certificate.{Cert}
use Rattle.bound_cert.proofs.OneBound.{one_bound}
use Rattle.cert_checker.specs.declared.steep.Steep.{Steep}
use Rattle.cert_checker.specs.declared.answer.CheckAnswer.{CheckAnswer}
use Rattle.cert_checker.specs.declared.answer.CheckAnswer.TheVariants.{Accepted, Rejected}
use Rattle.cert_checker.specs.Answer.{IsAnswer}
use Rattle.cert_checker.proofs.Steeps.{first_not_valid, first_unique}

pub answer_unique : (board : Board) (cert : Cert) (x y : CheckAnswer) → IsAnswer board cert x
    → IsAnswer board cert y → y ≡ x
answer_unique board cert (Accepted a) (Accepted b) first second =
    ap (λ (bound : ℕ). Accepted bound) (one_bound board cert b a second.1 first.1)
answer_unique board cert (Accepted a) (Rejected q) first second =
    absurd (first_not_valid board cert q second first.0)
answer_unique board cert (Rejected p) (Accepted b) first second =
    absurd (first_not_valid board cert p first second.0)
answer_unique board cert (Rejected p) (Rejected q) first second =
    ap (λ (pair : Steep). Rejected pair) (first_unique board cert p q first second)
