-- Words ask for one request, and what is known of it.
use Rattle.std.proofs.Common.{◌≡◌, ◌⊎◌, ℕ, ◌≤◌, List, [], ◌∷◌, length, refl, sym, ap, subst, ◌∙◌, inl, inr, arith, codes}
use Rattle.std.specs.Prelude.{Option, Some, None, IfSome, IfNone}
use Rattle.tdm_desk.specs.Files.{Name}
use Rattle.tdm_desk.specs.Seen.{Seen}
use Rattle.tdm_desk.specs.Counts.{Counts}
use Rattle.command_run.specs.Outcome.{Outcome}
use Rattle.command_run.specs.Inputs.{Content}
use Rattle.command_run.specs.declared.outcome.Decision.{Decision}
use Rattle.command_run.specs.Decision.{Decides}
use Rattle.command_run.specs.Concluded.{HasRoom, Concludes}
use Rattle.command_run.specs.Ends.{RunEnds}
use Rattle.command_run.proofs.EndsLaws.{run-ends}
use Rattle.command_run.proofs.StatusLaws.{has-room}
use Rattle.tdm_cli.specs.declared.status.Status.{Status}
use Rattle.tdm_cli.specs.declared.status.Status.TheVariants as status
use Rattle.tdm_cli.specs.declared.command.Command.{Command}
use Rattle.tdm_cli.specs.declared.command.Command.TheVariants.{Route, Eval, Check, Gen, Demo}
use Rattle.tdm_cli.specs.Words.{RequestIs, IsCommand, is_route, is_eval, is_check, is_gen, is_demo}
use Rattle.tdm_cli.specs.Request.{Request, route, eval, check, gen, demo, nothing, Asks, request_of, inputs_of, outputs_of}
use Rattle.tdm_cli.specs.declared.writing.Output.{Output}
use Rattle.tdm_cli.specs.Kinds.{faults}
use Rattle.tdm_cli.specs.Texts.{text_of}
use Rattle.tdm_cli.specs.Outcomes.{CallsFor}
use Rattle.tdm_cli.proofs.WordLaws.{names-are, route-is, gen-is, demo-is}
use Rattle.tdm_cli.proofs.FairLaws.{IsNothing, IsFair, fair}

-- the word that a command begins with
abbrev word-of : Request → Name
word-of (route board solution cert rounds) = codes "route"
word-of (eval board solution) = codes "eval"
word-of (check board cert) = codes "check"
word-of (gen fpgas nets groups board) = codes "gen"
word-of (demo fpgas nets groups solution cert) = codes "demo"
word-of nothing = []

abbrev first-of : List Name → Name
first-of [] = []
first-of (word ∷ names) = word

-- the words of no two commands begin with one letter
abbrev letter : Name → ℕ
letter [] = 0
letter (first ∷ rest) = first

-- what is asked for is a command, whose word is the first, or nothing
some-command : (words : List Name) (request : Request) → Asks words request → ¬ IsNothing request
    → IsCommand words × (first-of words ≡ word-of request)
some-command words (route board solution cert rounds) asks some = (
  is_route board solution cert rounds asks,
  ap first-of asks.words_are,
)
some-command words (eval board solution) asks some = (is_eval board solution asks, ap first-of asks.words_are)
some-command words (check board cert) asks some = (is_check board cert asks, ap first-of asks.words_are)
some-command words (gen fpgas nets groups board) asks some = (
  is_gen fpgas nets groups board asks,
  ap first-of asks.words_are,
)
some-command words (demo fpgas nets groups solution cert) asks some =
    (is_demo fpgas nets groups solution cert asks, ap first-of asks.words_are)
some-command words nothing asks some = absurd (some tt)

one-request : (words : List Name) (a b : Request) → Asks words a → Asks words b → a ≡ b
one-request words (route a b c m) (route d e f n) one two = let same =
    route-is words a b c m d e f n one two in cc (same.0, same.1, same.2, same.3)
one-request words (eval a b) (eval d e) one two = let same = names-are (codes "eval") words a b d e one two in
    cc (same.0, same.1)
one-request words (check a b) (check d e) one two = let same =
    names-are (codes "check") words a b d e one two in cc (same.0, same.1)
one-request words (gen k l m a) (gen p q r d) one two = let same = gen-is words k l m a p q r d one two in
    cc (same.0, same.1, same.2, same.3)
one-request words (demo k l m a b) (demo p q r d e) one two = let same =
    demo-is words k l m a b p q r d e one two in cc (same.0, same.1, same.2, same.3, same.4)
one-request words nothing nothing one two = refl
one-request words nothing b one two = absurd (one (some-command words b two (λ none. none)).0)
one-request words a nothing one two = absurd (two (some-command words a one (λ none. none)).0)
one-request words a b one two =
    let e : letter (word-of a) ≡ letter (word-of b) =
    ap letter (sym (some-command words a one (λ none. none)).1
    ∙ (some-command words b two (λ none. none)).1) in
    absurd (omega (arith, e))

-- what holds of one request that the words ask for holds of each
pub asked : (words : List Name) (P : Request → Type 0)
    → ((request : Request) × Asks words request × P request) → (request : Request) → Asks words request
    → P request
asked words P found request asks = subst P (one-request words found.0 request found.1 asks) found.2

pub nothing-asked : (words : List Name) (request : Request) → Asks words request → IsNothing request
    → ¬ IsCommand words
nothing-asked words nothing asks none = asks
nothing-asked words _ asks none = absurd none

-- what was found of the words is what they ask for
pub asks-found : (words : List Name) (found : Option Command) → IfSome found (RequestIs words)
    → IfNone found (¬ IsCommand words)
    → Asks words (request_of found)
asks-found words (Some (Route board solution cert rounds)) is none = is
asks-found words (Some (Eval board solution)) is none = is
asks-found words (Some (Check board cert)) is none = is
asks-found words (Some (Gen fpgas nets groups board)) is none = is
asks-found words (Some (Demo fpgas nets groups solution cert)) is none = is
asks-found words None is none = none

-- no outcome has more texts than the request has outputs
few-texts : (request : Request) (contents : List Content) (outcome : Outcome Status)
    → CallsFor request contents outcome → length outcome.texts ≤ length (outputs_of request)
few-texts request contents outcome calls = by (fair request contents outcome calls)
  where
    by : IsFair request outcome → length outcome.texts ≤ length (outputs_of request)
    by (inl (slot, near, is)) = subst (λ (o : Outcome Status). length o.texts ≤ length (outputs_of request))
        (sym is) (omega arith)
    by (inr decided) = texts decided.silent
      where
        texts : (outcome.status ≡ status.Ok) ⊎ (outcome.texts ≡ [])
            → length outcome.texts ≤ length (outputs_of request)
        texts (inl ok) = omega (arith, decided.written ok)
        texts (inr none) = subst (λ ts. length ts ≤ length (outputs_of request)) (sym none) (omega arith)

few-outputs : (request : Request) → length (outputs_of request) ≤ 3
few-outputs (route board solution cert rounds) = omega arith
few-outputs (eval board solution) = omega arith
few-outputs (check board cert) = omega arith
few-outputs (gen fpgas nets groups board) = omega arith
few-outputs (demo fpgas nets groups solution cert) = omega arith
few-outputs nothing = omega arith

module _ {D : Type 0} {counts : D → Counts} {steady : D → Type 0} {seen : D → Seen} (request : Request)
    {names : List Name} (same : names ≡ outputs_of request) {before between : D}
    (d : Decision Status Output) (decided : Decides counts steady seen text_of faults 0 (inputs_of request)
    (CallsFor request) before between d) where
  -- what a request comes to has room in its outputs
  pub room-for : HasRoom names d
  room-for = subst (λ outputs. HasRoom outputs d) (sym same)
      (has-room text_of faults (inputs_of request) (outputs_of request) (CallsFor request) before between
      (length (outputs_of request)) (omega arith) (few-outputs request) (few-texts request) d decided)

  -- and where it is put out there, the run of the request ends
  pub ran-by : (words : List Name) → Asks words request → (after : D) (answer : Status)
      → Concludes counts steady seen text_of faults names between after answer d
      → (r : Request) × Asks words r × RunEnds counts steady seen faults (inputs_of r) (outputs_of r)
      (CallsFor r) before after answer
  ran-by words asks after answer puts = (
    request,
    asks,
    subst (λ outputs. RunEnds counts steady seen faults (inputs_of request) outputs
        (CallsFor request) before after answer) same
        (run-ends counts steady seen text_of faults (inputs_of request) names
        (CallsFor request) before between after answer d decided room-for puts),
  )
