-- What `demo` makes of the routing of a board whose nets can be joined.
use Rattle.std.proofs.Common.{◌≡◌, ◌≢◌, ℕ, List, [], ◌∷◌, ◌++◌, sym, ap, subst, ◌∙◌}
use Rattle.tdm_desk.specs.Files.{Bytes}
use Rattle.tdm_problem.specs.Board.{Board}
use Rattle.tdm_problem.specs.Legal.{AllConnectable}
use Rattle.tdm_problem.specs.Value.{value_of}
use Rattle.bound_cert.specs.CertText.{cert_text}
use Rattle.solution_text.specs.Text.{solution_text}
use Rattle.board_generator.specs.Generated.{generated}
use Rattle.command_run.specs.Outcome.{Outcome}
use Rattle.tdm_cli.specs.declared.status.Status.{Status}
use Rattle.tdm_cli.specs.declared.status.Status.TheVariants as status
use Rattle.tdm_cli.specs.Reports.{size_report, demo_report}
use Rattle.tdm_cli.specs.Baseline.{IsOverUseLimit}
use Rattle.tdm_cli.specs.Improved.{IsImproved}
use Rattle.tdm_cli.specs.Outcomes.{comes_to, Routes, is_unconnectable, is_over_limit, is_routed, Demonstrates, is_too_large, is_shown}
use Rattle.tdm_cli.proofs.AskedLaws.{first-of}

module _ (fpgas nets groups : ℕ) (board : Board) (same : board ≡ generated fpgas nets groups)
    (joined : AllConnectable board) where
  -- the outcome of the routing, where nothing is written
  pub demo-silent : (s : Status) (report : Bytes) (texts : List Bytes)
      → Routes board 20 (comes_to 1 s report texts) → s ≢ status.Ok
      → Demonstrates fpgas nets groups (comes_to 0 s report texts)
  demo-silent s report texts (is_unconnectable apart are some is) other =
      let net = first-of apart some in
      let found = (are.exact net.0).0 net.1 in
      absurd (found.1 (joined net.0 found.0))
  demo-silent s report texts (is_over_limit over is) other =
      is_too_large (subst IsOverUseLimit same over) (ap (λ (o : Outcome Status). record o { opened = 0 }) is)
  demo-silent s report texts (is_routed routing cert bound improved is) other =
      absurd (other (ap (λ (o : Outcome Status). o.status) is))

  -- the outcome of the routing, with how large the board is
  pub demo-shown : (s : Status) (report : Bytes) (texts : List Bytes) → s ≡ status.Ok
      → Routes board 20 (comes_to 1 s report texts)
      → Demonstrates fpgas nets groups (comes_to 0 s (size_report board ++ report) texts)
  demo-shown s report texts ok (is_unconnectable apart are some is) =
      let e : status.Ok ≡ status.Unconnectable = sym ok ∙ ap (λ (o : Outcome Status). o.status) is in
      absurd (cc)
  demo-shown s report texts ok (is_over_limit over is) = let e : status.Ok ≡ status.UseLimit = sym ok
      ∙ ap (λ (o : Outcome Status). o.status) is in absurd (cc)
  demo-shown s report texts ok (is_routed routing cert bound improved is) =
      is_shown routing cert bound (subst (λ (b : Board). IsImproved b 20 routing cert bound) same improved)
      (ap (λ (o : Outcome Status). comes_to 0 o.status (size_report board ++ o.report) o.texts) is
      ∙ ap (λ (b : Board). comes_to 0 status.Ok (demo_report b (value_of b routing) bound)
      (solution_text routing ∷ cert_text cert ∷ [])) same)
