-- What is read to its end where a run ends well.
use Rattle.std.proofs.Common.{◌≡◌, ◌≢◌, ℕ, ◌≤◌, ◌+◌, ◌^◌, List, [], ◌∷◌, length, refl, sym, ap, subst, ◌∙◌, arith, drop}
use Rattle.std.specs.Prelude.{Option, Some, None, Ok, option_map, unwrap_or}
use Rattle.std.proofs.lemmas.List.{drop_all}
use Rattle.std.specs.Option.{ForSome}
use Rattle.std.specs.FinMap.{get}
use Rattle.tdm_desk.specs.declared.slots.InSlot.{InSlot}
use Rattle.tdm_desk.specs.declared.slots.InSlot.TheVariants.{In0}
use Rattle.tdm_desk.specs.Files.{Bytes, Files, Name, bytes_under}
use Rattle.tdm_desk.specs.Seen.{Seen, files_of, rest_of}
use Rattle.tdm_desk.specs.Counts.{Counts}
use Rattle.tdm_problem.specs.Board.{Board}
use Rattle.command_run.specs.Slots.{place, WasRead}
use Rattle.command_run.specs.Outcome.{Outcome}
use Rattle.command_run.specs.Inputs.{Input, Content, no_file, unreadable, text, HoldEach, TextKind, ByInput, ByNone}
use Rattle.command_run.specs.Ends.{RunEnds}
use Rattle.command_run.proofs.StatusLaws.{by-input}
use Rattle.tdm_cli.specs.declared.status.Status.{Status}
use Rattle.tdm_cli.specs.declared.status.Status.TheVariants as status
use Rattle.tdm_cli.specs.Kinds.{faults, boards, solutions, certificates, board_input, solution_input, cert_input}
use Rattle.tdm_cli.specs.Request.{Request, route, eval, check, gen, demo, nothing, inputs_of, outputs_of}
use Rattle.tdm_cli.specs.Outcomes.{Routes, Judges, Checks, Generates, Demonstrates, JudgesNext, ChecksNext, CallsFor, refused_words}
use Rattle.tdm_cli.specs.Asked.{IsOutsideFault}
use Rattle.tdm_cli.specs.Ended.{IsReadOut, AreReadOut}
use Rattle.tdm_cli.proofs.TextLaws.{within-limit}
use Rattle.tdm_cli.proofs.EndedLaws.{ended-own}

-- a file that is within the limit was read to its end
read-out : (slot : InSlot) (limit : ℕ) (name : Name) (bytes : Bytes) (before after : Seen)
    → WasRead slot limit name before after → ForSome (files_of before) (λ files. get files name ≡ Some bytes)
    → length bytes ≤ limit → IsReadOut after slot
unfolding bytes_under
read-out slot limit name bytes before after read held short = record {
  is_open = read.is_open;
  empty = by (files_of before) refl;
}
  where
    by : (files : Option Files) → files_of before ≡ files → ForSome (rest_of slot after) (λ rest. rest ≡ [])
    by None told = λ rest is. absurd (
        let e : ◌≡◌ {A = Option Bytes} None (Some rest) =
        sym (read.rest ∙ ap (option_map (λ files. drop (limit + 1) (bytes_under name files))) told)
        ∙ is in cc
        )
    by (Some files) told = λ rest is.
        let e : ◌≡◌ {A = Option Bytes} (Some (drop (limit + 1) (bytes_under name files))) (Some rest) =
        sym (read.rest ∙ ap (option_map (λ files. drop (limit + 1) (bytes_under name files))) told)
        ∙ is in
        let same : drop (limit + 1) (bytes_under name files) ≡ rest = cc (e) in
        sym same ∙ ap (λ found. drop (limit + 1) (unwrap_or found [])) (held files told)
        ∙ drop_all (limit + 1) bytes (omega (arith, short))

-- each content is a text within the limit of its input
abbrev AreWithin : List Input → List Content → Type 0
AreWithin [] [] = Unit {0}
AreWithin (input ∷ inputs) (text bytes ∷ contents) = (length bytes ≤ input.limit) × AreWithin inputs contents
AreWithin _ _ = ⊥

-- each input is at most at this place
abbrev AreNear : ℕ → List Input → Type 0
AreNear last [] = Unit {0}
AreNear last (input ∷ inputs) = (place input.slot ≤ last) × AreNear last inputs

all-read : (opened : ℕ) (failed : Option InSlot) (before after : Seen) (inputs : List Input)
    (contents : List Content) → HoldEach opened failed inputs contents before after
    → AreWithin inputs contents → AreNear opened inputs → AreReadOut after inputs
all-read opened failed before after [] contents held within near = tt
all-read opened failed before after (input ∷ inputs) [] held within near = absurd held
all-read opened failed before after (input ∷ inputs) (no_file ∷ contents) held within near = absurd within
all-read opened failed before after (input ∷ inputs) (unreadable ∷ contents) held within near = absurd within
all-read opened failed before after (input ∷ inputs) (text bytes ∷ contents) held within near = (
  read-out input.slot input.limit input.name bytes before after (held.0.1 near.0) held.0.0 within.0,
  all-read opened failed before after inputs contents held.1 within.1 near.1,
)

-- at Ok the text of each of these inputs is within the limit
abbrev IsShort : List Input → List Content → Outcome Status → Type 0
IsShort inputs contents outcome = outcome.status ≡ status.Ok → AreWithin inputs contents

none-short : (Is : Outcome Status → Type 0) (contents : List Content) (outcome : Outcome Status)
    → ByNone Is contents outcome → IsShort [] contents outcome
none-short Is [] outcome is = λ ok. tt
none-short Is (content ∷ contents) outcome is = absurd is

-- and of one more input before them, where its text is within the limit if it is accepted
input-short : (input : Input) (inputs : List Input) {V R : Type 0} (kind : TextKind Status V R)
    → kind.status ≢ status.Ok → ((bytes : Bytes) (value : V) → kind.says bytes ≡ Ok value
    → length bytes ≤ input.limit)
    → (Then : V → List Content → Outcome Status → Type 0)
    → ((value : V) (contents : List Content) (outcome : Outcome Status) → Then value contents outcome
    → IsShort inputs contents outcome)
    → (contents : List Content) (outcome : Outcome Status)
    → ByInput faults input.slot kind Then contents outcome → IsShort (input ∷ inputs) contents outcome
input-short input inputs kind refusal within Then each =
    by-input faults input.slot kind Then (IsShort (input ∷ inputs))
    (λ rest e. cc) (λ rest e. cc) (λ bytes refused rest says e. absurd (refusal e))
    (λ bytes value rest outcome says then e. (within bytes value says, each value rest outcome then e))

board-short : (name : Name) (inputs : List Input) (Then : Board → List Content → Outcome Status → Type 0)
    → ((problem : Board) (contents : List Content) (outcome : Outcome Status) → Then problem contents outcome
    → IsShort inputs contents outcome)
    → (contents : List Content) (outcome : Outcome Status) → ByInput faults In0 boards Then contents outcome
    → IsShort (board_input name ∷ inputs) contents outcome
board-short name inputs = input-short (board_input name) inputs boards (λ e. cc)
    (λ bytes problem says. within-limit (2 ^ 28) (length bytes) _ _ problem says)

short : (request : Request) (contents : List Content) (outcome : Outcome Status)
    → CallsFor request contents outcome → IsShort (inputs_of request) contents outcome
short (route board solution cert rounds) = board-short board [] (λ problem. ByNone (Routes problem rounds))
    (λ problem. none-short (Routes problem rounds))
short (eval board solution) = board-short board (solution_input solution ∷ []) JudgesNext
    (λ problem. input-short (solution_input solution) [] (solutions problem) (λ e. cc)
    (λ bytes solved says. within-limit (2 ^ 30) (length bytes) _ _ solved says)
    (λ solved. ByNone (Judges problem solved)) (λ solved. none-short (Judges problem solved)))
short (check board cert) = board-short board (cert_input cert ∷ []) ChecksNext
    (λ problem. input-short (cert_input cert) [] (certificates problem) (λ e. cc)
    (λ bytes proof says. within-limit (2 ^ 30) (length bytes) _ _ proof says)
    (λ proof. ByNone (Checks problem proof)) (λ proof. none-short (Checks problem proof)))
short (gen fpgas nets groups board) = none-short (Generates fpgas nets groups)
short (demo fpgas nets groups solution cert) = none-short (Demonstrates fpgas nets groups)
short nothing = none-short (λ outcome. outcome ≡ refused_words)

near : (request : Request) (opened : ℕ) → length (inputs_of request) ≤ opened
    → AreNear opened (inputs_of request)
near (route board solution cert rounds) opened all = (omega (arith, all), tt)
near (eval board solution) opened all = (omega (arith, all), (omega (arith, all), tt))
near (check board cert) opened all = (omega (arith, all), (omega (arith, all), tt))
near (gen fpgas nets groups board) opened all = tt
near (demo fpgas nets groups solution cert) opened all = tt
near nothing opened all = tt

pub run-read : {D : Type 0} (counts : D → Counts) (steady : D → Type 0) (seen : D → Seen) (request : Request)
    (before after : D) (answer : Status)
    → RunEnds counts steady seen faults (inputs_of request) (outputs_of request) (CallsFor request) before
    after answer → answer ≡ status.Ok → AreReadOut (seen after) (inputs_of request)
run-read counts steady seen request before after answer ends ok =
    ended-own counts steady seen request before after answer ends (subst IsOutsideFault ok)
    (AreReadOut (seen after) (inputs_of request))
    (λ outcome came put kept decided. all-read outcome.opened outcome.unread (seen before) (seen after)
    (inputs_of request) came.contents came.held
    (short request came.contents outcome came.called (sym put.stands ∙ ok))
    (near request outcome.opened (decided.reached (sym put.stands ∙ ok))))
