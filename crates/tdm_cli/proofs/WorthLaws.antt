-- What the outcome of a run is worth.
use Rattle.std.proofs.Common.{◌≡◌, ℕ, ◌++◌, List, [], ◌∷◌, refl, sym, ap, subst, ◌∙◌}
use Rattle.std.specs.Prelude.{Option, Some, None, Result, Ok, Err, option_map}
use Rattle.std.specs.FinMap.{get}
use Rattle.tdm_desk.specs.declared.slots.InSlot.{InSlot}
use Rattle.tdm_desk.specs.declared.slots.InSlot.TheVariants.{In0, In1}
use Rattle.tdm_desk.specs.Files.{Bytes, Files, Name}
use Rattle.tdm_desk.specs.Seen.{Seen, files_of, said_of}
use Rattle.tdm_desk.specs.Counts.{Counts}
use Rattle.tdm_problem.specs.Board.{Board}
use Rattle.tdm_problem.specs.Routing.{Routing}
use Rattle.tdm_problem.specs.Value.{value_of}
use Rattle.contest_input.specs.BoardText.{board_of}
use Rattle.board_generator.specs.Generated.{generated}
use Rattle.contest_input.proofs.Accepted.{accepted-board}
use Rattle.contest_input.proofs.ReadsBack.{text_reads_back as board_text_reads_back}
use Rattle.solution_text.proofs.ReadsBack.{text_reads_back}
use Rattle.solution_text.proofs.Size.{never_too_long}
use Rattle.solution_text.specs.Reading.{solution_of}
use Rattle.solution_text.specs.Text.{solution_text}
use Rattle.solution_eval.specs.declared.judgement.Verdict.{Verdict}
use Rattle.solution_eval.specs.declared.judgement.Verdict.TheVariants.{Legal, NotJoined, BadRatio, Overfull}
use Rattle.solution_eval.specs.Verdict.{IsVerdict}
use Rattle.bound_cert.specs.Certificate.{Cert}
use Rattle.bound_cert.specs.CertReading.{cert_of}
use Rattle.bound_cert.specs.CertText.{cert_text}
use Rattle.bound_cert.proofs.Accepted.{accepted-cert}
use Rattle.bound_cert.proofs.DualBound.{bound-le_value}
use Rattle.bound_cert.proofs.CertReadsBack.{text_reads_back as cert_text_reads_back}
use Rattle.bound_cert.proofs.CertSize.{never_too_long as cert_never_too_long}
use Rattle.cert_checker.specs.declared.answer.CheckAnswer.{CheckAnswer}
use Rattle.cert_checker.specs.declared.answer.CheckAnswer.TheVariants.{Accepted, Rejected}
use Rattle.cert_checker.specs.Answer.{IsAnswer}
use Rattle.command_run.specs.Outcome.{Outcome}
use Rattle.command_run.specs.Inputs.{TextKind, content_of, contents_in, FromText, FromInput}
use Rattle.command_run.specs.Outputs.{with_files, Leaves}
use Rattle.command_run.specs.Ends.{RunEnds}
use Rattle.tdm_cli.specs.declared.status.Status.{Status}
use Rattle.tdm_cli.specs.declared.status.Status.TheVariants as status
use Rattle.tdm_cli.specs.Kinds.{faults, boards, solutions, certificates}
use Rattle.tdm_cli.specs.Request.{Request, route, eval, check, gen, demo, nothing, inputs_of, outputs_of}
use Rattle.tdm_cli.specs.Reports.{route_report, demo_report, verdict_report, answer_report}
use Rattle.tdm_cli.specs.Outcomes.{comes_to, Routes, is_unconnectable, is_over_limit, is_routed, status_of_verdict, Judges, status_of_answer, Checks, Generates, Demonstrates, is_too_large, is_shown, CallsFor}
use Rattle.tdm_cli.specs.Asked.{IsOutsideFault}
use Rattle.tdm_cli.specs.Improved.{IsImproved}
use Rattle.tdm_cli.specs.Promises.{IsWritten, IsJudged, IsWorth, BoundsHold}
use Rattle.tdm_cli.proofs.EndedLaws.{ended, told-calls}

-- the bound of a certificate that is accepted for a board is below the value of each legal solution
pub bounds-hold : BoundsHold
bounds-hold board_text cert_text board cert bound described certified valid is routing legal =
    bound-le_value board cert bound routing (accepted-board board_text board described)
    (accepted-cert board cert_text cert certified) valid is legal

-- what holds where there is no file, or it is refused, and of all that comes of what it says, holds of each
-- status
module _ {V R : Type 0} (slot : InSlot) (kind : TextKind Status V R) (Then : V → Outcome Status
    → Type 0) (P : Status → Type 0) where
  file-says : (found : Option Bytes) (outcome : Outcome Status)
      → FromInput faults slot kind (content_of found) Then outcome → P status.NoInput → P kind.status
      → ((bytes : Bytes) (value : V) → found ≡ Some bytes → kind.says bytes ≡ Ok value → Then value outcome
      → P outcome.status) → P outcome.status
  file-says None outcome is none refused says = subst (λ (o : Outcome Status). P o.status) (sym is) none
  file-says (Some bytes) outcome is none refused says = by (kind.says bytes) refl is
    where
      by : (said : Result V R) → kind.says bytes ≡ said → FromText faults slot kind said Then outcome
          → P outcome.status
      by (Ok value) e then = says bytes value refl e then
      by (Err refusal) e is = subst (λ (o : Outcome Status). P o.status) (sym is) refused

module _ (files : Files) (before after : Seen) (told : files_of before ≡ Some files) where
  -- what the files hold, and what was said, by the outcome
  left-files : (names : List Name) (outcome it : Outcome Status)
      → Leaves before after names outcome.texts outcome.report → outcome ≡ it
      → files_of after ≡ Some (with_files names it.texts files)
  left-files names outcome it left is =
      left.files ∙ ap (λ (o : Outcome Status). option_map (with_files names o.texts) (files_of before)) is
      ∙ ap (option_map (with_files names it.texts)) told

  left-said : (names : List Name) (outcome it : Outcome Status)
      → Leaves before after names outcome.texts outcome.report → outcome ≡ it
      → said_of after ≡ option_map (λ s. s ++ it.report) (said_of before)
  left-said names outcome it left is = left.said
      ∙ ap (λ (o : Outcome Status). option_map (λ s. s ++ o.report) (said_of before)) is

  -- a solution and a certificate that were found for a board are written
  found-written : (board : Board) (solution cert : Name) (rounds : ℕ) (opened : ℕ) (report : (value bound : ℕ)
      → Bytes) (outcome : Outcome Status)
      → Leaves before after (solution ∷ cert ∷ []) outcome.texts outcome.report
      → (routing : Routing) (proof : Cert) (bound : ℕ) → IsImproved board rounds routing proof bound
      → outcome ≡ comes_to opened status.Ok (report (value_of board routing) bound)
      (solution_text routing ∷ cert_text proof ∷ [])
      → IsWritten board files solution cert rounds report before after
  found-written board solution cert rounds opened report outcome left routing proof bound improved is =
      let may = improved.may_be_written in
      record {
        routing = routing;
        legal = may.legal;
        minimal = may.minimal;
        few = may.few;
        tight = improved.tight;
        no_worse = may.no_worse;
        proof = proof;
        valid = may.valid;
        bound = bound;
        is_bound = may.is_bound;
        lower = may.lower;
        hop_floor = may.hop_floor;
        share_floor = may.share_floor;
        rounds = improved.rounds;
        written = left-files (solution ∷ cert ∷ []) outcome _ left is;
        reads_back = text_reads_back board routing may.sayable
            (never_too_long board routing may.sayable may.few);
        cert_reads_back =
            let short = cert_never_too_long board proof may.sayable.limits may.within may.cert_for
            may.cert_few in
            cert_text_reads_back board proof may.within may.cert_for short;
        told = left-said (solution ∷ cert ∷ []) outcome _ left is;
      }

  routed : (name solution cert : Name) (rounds : ℕ) (outcome : Outcome Status)
      → Leaves before after (solution ∷ cert ∷ []) outcome.texts outcome.report
      → (bytes : Bytes) (board : Board) → get files name ≡ Some bytes → board_of bytes ≡ Ok board
      → Routes board rounds outcome
      → IsWorth (route name solution cert rounds) files before after outcome.status
  routed name solution cert rounds outcome left bytes board found says (is_unconnectable nets are some is) =
      subst (λ (o : Outcome Status). IsWorth (route name solution cert rounds) files before after o.status)
      (sym is) tt
  routed name solution cert rounds outcome left bytes board found says (is_over_limit over is) =
      subst (λ (o : Outcome Status). IsWorth (route name solution cert rounds) files before after o.status)
      (sym is) tt
  routed name solution cert rounds outcome left bytes board found says
      (is_routed routing proof bound improved is) =
      subst (λ (o : Outcome Status). IsWorth (route name solution cert rounds) files before after o.status)
      (sym is) (record {
        board = board;
        described = (bytes, found, says);
        routed = found-written board solution cert rounds 1 route_report outcome left routing proof bound
            improved is;
      })

  written : (fpgas nets groups : ℕ) (name : Name) (outcome : Outcome Status)
      → Leaves before after (name ∷ []) outcome.texts outcome.report → Generates fpgas nets groups outcome
      → IsWorth (gen fpgas nets groups name) files before after outcome.status
  written fpgas nets groups name outcome left generates =
      subst (λ (o : Outcome Status). IsWorth (gen fpgas nets groups name) files before after o.status)
      (sym generates.is) (record {
        written = left-files (name ∷ []) outcome _ left generates.is;
        reads_back = board_text_reads_back (generated fpgas nets groups) generates.limits;
        told = left-said (name ∷ []) outcome _ left generates.is;
      })

  shown : (fpgas nets groups : ℕ) (solution cert : Name) (outcome : Outcome Status)
      → Leaves before after (solution ∷ cert ∷ []) outcome.texts outcome.report
      → Demonstrates fpgas nets groups outcome
      → IsWorth (demo fpgas nets groups solution cert) files before after outcome.status
  shown fpgas nets groups solution cert outcome left (is_too_large over is) =
      subst (λ (o : Outcome Status). IsWorth (demo fpgas nets groups solution cert) files before after
      o.status) (sym is) tt
  shown fpgas nets groups solution cert outcome left (is_shown routing proof bound improved is) =
      subst (λ (o : Outcome Status). IsWorth (demo fpgas nets groups solution cert) files before after
      o.status) (sym is)
      (found-written (generated fpgas nets groups) solution cert 20 0
      (demo_report (generated fpgas nets groups)) outcome left routing proof bound improved is)

  judged : (name solution : Name) (outcome : Outcome Status)
      → Leaves before after [] outcome.texts outcome.report → (bytes : Bytes) (board : Board)
      → get files name ≡ Some bytes → board_of bytes ≡ Ok board
      → (text : Bytes) (routing : Routing) → get files solution ≡ Some text
      → solution_of board text ≡ Ok routing → Judges board routing outcome
      → IsWorth (eval name solution) files before after outcome.status
  judged name solution outcome left bytes board found says text routing proposed is judges =
      subst (λ (o : Outcome Status). IsWorth (eval name solution) files before after o.status) (sym judges.is)
      (by judges.verdict judges.right judges.is)
    where
      right-of : (verdict : Verdict) → IsVerdict board routing verdict
          → outcome ≡ comes_to 2 (status_of_verdict verdict) (verdict_report verdict) []
          → IsJudged files name solution before after verdict
      right-of verdict right e = record {
        board = board;
        described = (bytes, found, says);
        routing = routing;
        proposed = (text, proposed, is);
        right = right;
        kept = left-files [] outcome _ left e;
        told = left-said [] outcome _ left e;
      }

      by : (verdict : Verdict) → IsVerdict board routing verdict
          → outcome ≡ comes_to 2 (status_of_verdict verdict) (verdict_report verdict) []
          → IsWorth (eval name solution) files before after (status_of_verdict verdict)
      by (Legal value) right e = (value, right-of (Legal value) right e)
      by (NotJoined net) right e = (NotJoined net, (λ says. says), right-of (NotJoined net) right e)
      by (BadRatio net wire ratio) right e = (
        BadRatio net wire ratio,
        (λ says. says),
        right-of (BadRatio net wire ratio) right e,
      )
      by (Overfull wire) right e = (Overfull wire, (λ says. says), right-of (Overfull wire) right e)

  checked : (name cert : Name) (outcome : Outcome Status)
      → Leaves before after [] outcome.texts outcome.report → (bytes : Bytes) (board : Board)
      → get files name ≡ Some bytes → board_of bytes ≡ Ok board
      → (text : Bytes) (proof : Cert) → get files cert ≡ Some text → cert_of board text ≡ Ok proof
      → Checks board proof outcome → IsWorth (check name cert) files before after outcome.status
  checked name cert outcome left bytes board found says text proof certified is checks =
      subst (λ (o : Outcome Status). IsWorth (check name cert) files before after o.status) (sym checks.is)
      (by checks.answer checks.right checks.is)
    where
      by : (answer : CheckAnswer) → IsAnswer board proof answer
          → outcome ≡ comes_to 2 (status_of_answer answer) (answer_report answer) []
          → IsWorth (check name cert) files before after (status_of_answer answer)
      by (Accepted bound) right e = record {
        board = board;
        described = (bytes, found, says);
        certificate = proof;
        certified = (text, certified, is);
        valid = right.0;
        bound = bound;
        is_bound = right.1;
        lower = bounds-hold bytes text board proof bound says is right.0 right.1;
        kept = left-files [] outcome _ left e;
        told = left-said [] outcome _ left e;
      }
      by (Rejected pair) right e = record {
        board = board;
        described = (bytes, found, says);
        certificate = proof;
        certified = (text, certified, is);
        pair = pair;
        first = right;
        kept = left-files [] outcome _ left e;
        told = left-said [] outcome _ left e;
      }

  -- an outcome that the files call for is worth that
  worth : (request : Request) (outcome : Outcome Status)
      → CallsFor request (contents_in files (inputs_of request)) outcome
      → Leaves before after (outputs_of request) outcome.texts outcome.report
      → IsWorth request files before after outcome.status
  worth (route board solution cert rounds) outcome calls left =
      file-says In0 boards (λ problem. Routes problem rounds)
      (IsWorth (route board solution cert rounds) files before after) (get files board) outcome calls tt
      tt (routed board solution cert rounds outcome left)
  worth (eval board solution) outcome calls left =
      file-says In0 boards _ (IsWorth (eval board solution) files before after) (get files board) outcome
      calls tt tt
      (λ bytes problem found says then. file-says In1 (solutions problem) (λ routing. Judges problem routing)
      (IsWorth (eval board solution) files before after) (get files solution) outcome then tt tt
      (judged board solution outcome left bytes problem found says))
  worth (check board cert) outcome calls left =
      file-says In0 boards _ (IsWorth (check board cert) files before after) (get files board) outcome calls
      tt tt
      (λ bytes problem found says then. file-says In1 (certificates problem) (λ proof. Checks problem proof)
      (IsWorth (check board cert) files before after) (get files cert) outcome then tt tt
      (checked board cert outcome left bytes problem found says))
  worth (gen fpgas nets groups board) outcome calls left = written fpgas nets groups board outcome left calls
  worth (demo fpgas nets groups solution cert) outcome calls left =
      shown fpgas nets groups solution cert outcome left calls
  worth nothing outcome calls left = tt

  -- a fault of the outside is worth nothing
  worthless : (request : Request) (answer : Status) → IsOutsideFault answer
      → IsWorth request files before after answer
  worthless (route board solution cert rounds) status.ReadFault fault = tt
  worthless (route board solution cert rounds) status.WriteFault fault = tt
  worthless (route board solution cert rounds) status.OutOfMemory fault = tt
  worthless (eval board solution) status.ReadFault fault = tt
  worthless (eval board solution) status.WriteFault fault = tt
  worthless (eval board solution) status.OutOfMemory fault = tt
  worthless (check board cert) status.ReadFault fault = tt
  worthless (check board cert) status.WriteFault fault = tt
  worthless (check board cert) status.OutOfMemory fault = tt
  worthless (gen fpgas nets groups board) status.ReadFault fault = tt
  worthless (gen fpgas nets groups board) status.WriteFault fault = tt
  worthless (gen fpgas nets groups board) status.OutOfMemory fault = tt
  worthless (demo fpgas nets groups solution cert) status.ReadFault fault = tt
  worthless (demo fpgas nets groups solution cert) status.WriteFault fault = tt
  worthless (demo fpgas nets groups solution cert) status.OutOfMemory fault = tt
  worthless nothing answer fault = tt
  worthless request _ fault = absurd fault

pub run-worth : {D : Type 0} (counts : D → Counts) (steady : D → Type 0) (seen : D → Seen) (request : Request)
    (before after : D) (answer : Status)
    → RunEnds counts steady seen faults (inputs_of request) (outputs_of request) (CallsFor request) before
    after answer
    → (files : Files) → files_of (seen before) ≡ Some files
    → IsWorth request files (seen before) (seen after) answer
run-worth counts steady seen request before after answer ends files told =
    ended counts steady seen request before after answer ends
    (IsWorth request files (seen before) (seen after) answer)
    (λ outcome came put kept decided. subst (IsWorth request files (seen before) (seen after))
    (sym put.stands)
    (worth files (seen before) (seen after) told request outcome
    (told-calls counts steady seen request before after answer files told outcome came decided)
    put.left))
    (λ slot near came put kept. none (subst IsOutsideFault (sym put.stands) tt))
    (λ is failed. none (subst IsOutsideFault (sym is) tt))
    (λ u is own. none (subst IsOutsideFault (sym is) tt))
  where
    none : IsOutsideFault answer → IsWorth request files (seen before) (seen after) answer
    none = worthless files (seen before) (seen after) told request answer
