-- What is known of the outcomes that contents call for.
use Rattle.std.proofs.Common.{◌≡◌, ℕ, ◌≤◌, List, [], ◌∷◌, length, refl, sym, ap, subst, ◌∙◌, arith, map}
use Rattle.std.proofs.lemmas.List.{length-map}
use Rattle.std.specs.Prelude.{Option, Some, None, Result, Ok, Err}
use Rattle.std.specs.FinMap.{get}
use Rattle.tdm_desk.specs.declared.slots.InSlot.{InSlot}
use Rattle.tdm_desk.specs.Files.{Bytes, Name, Files}
use Rattle.tdm_desk.specs.Seen.{Seen, files_of}
use Rattle.tdm_desk.specs.Counts.{Counts}
use Rattle.command_run.specs.declared.outcome.Decision.{Decision}
use Rattle.command_run.specs.declared.outcome.Decision.TheVariants as decision
use Rattle.command_run.specs.Outcome.{Outcome, Faults, outcome_of}
use Rattle.command_run.specs.Decision.{Decides}
use Rattle.command_run.specs.Concluded.{HasRoom}
use Rattle.command_run.specs.Inputs.{Input, Content, no_file, unreadable, text, content_of, contents_in, Holds, HoldEach, TextKind, missing, unread, refused, FromText, ByInput, ByNone}

-- ---- what the inputs hold

-- where the desk tells its files and no input failed, the inputs hold what the files do
pub contents-told : (opened : ℕ) (files : Files) (before after : Seen) → files_of before ≡ Some files
    → (inputs : List Input) (contents : List Content) → HoldEach opened None inputs contents before after
    → contents ≡ contents_in files inputs
contents-told opened files before after told [] [] held = refl
contents-told opened files before after told (input ∷ inputs) (content ∷ contents) held =
    ap (λ c. c ∷ contents) (one content held.0) ∙ ap (λ cs. content_of (get files input.name) ∷ cs)
    (contents-told opened files before after told inputs contents held.1)
  where
    one : (content : Content) → Holds opened None input content before after
        → content ≡ content_of (get files input.name)
    one no_file is = ap content_of (sym (is files told))
    one unreadable is = let e : ◌≡◌ {A = Option InSlot} None (Some input.slot) = is in absurd cc
    one (text bytes) is = ap content_of (sym (is.0 files told))
contents-told opened files before after told _ _ held = absurd held

-- ---- what an input decides

module _ {S V R : Type 0} (faults : Faults S) (slot : InSlot) (kind : TextKind S V R) (Then : V → List Content
    → Outcome S → Type 0) where
  -- what holds where an input is missing, cannot be read or is refused, and of all that follows from what it
  -- says, holds of each outcome
  pub by-input : (P : List Content → Outcome S → Type 0)
      → ((rest : List Content) → P (no_file ∷ rest) (missing faults slot))
      → ((rest : List Content) → P (unreadable ∷ rest) (unread faults slot))
      → ((bytes : Bytes) (refusal : R) (rest : List Content) → kind.says bytes ≡ Err refusal
      → P (text bytes ∷ rest) (refused faults slot kind refusal))
      → ((bytes : Bytes) (value : V) (rest : List Content) (outcome : Outcome S) → kind.says bytes ≡ Ok value
      → Then value rest outcome → P (text bytes ∷ rest) outcome)
      → (contents : List Content) (outcome : Outcome S) → ByInput faults slot kind Then contents outcome
      → P contents outcome
  by-input P none unreads refuses says [] outcome is = absurd is
  by-input P none unreads refuses says (no_file ∷ rest) outcome is =
      subst (P (no_file ∷ rest)) (sym is) (none rest)
  by-input P none unreads refuses says (unreadable ∷ rest) outcome is =
      subst (P (unreadable ∷ rest)) (sym is) (unreads rest)
  by-input P none unreads refuses says (text bytes ∷ rest) outcome is = by (kind.says bytes) refl is
    where
      by : (said : Result V R) → kind.says bytes ≡ said
          → FromText faults slot kind said (λ value. Then value rest) outcome → P (text bytes ∷ rest) outcome
      by (Ok value) e then = says bytes value rest outcome e then
      by (Err refusal) e is = subst (P (text bytes ∷ rest)) (sym is) (refuses bytes refusal rest e)

-- and where no further input is read, of the outcome
pub by-none : {S : Type 0} (P : Outcome S → Type 0) (Is : Outcome S → Type 0)
    → ((outcome : Outcome S) → Is outcome → P outcome) → (contents : List Content) (outcome : Outcome S)
    → ByNone Is contents outcome → P outcome
by-none P Is each [] outcome is = each outcome is
by-none P Is each (content ∷ contents) outcome is = absurd is

-- ---- room for the texts

module _ {D S T : Type 0} {counts : D → Counts} {steady : D → Type 0} {seen : D → Seen} (text_of : T
    → Bytes) (faults : Faults S) (inputs : List Input) (outputs : List Name) (Calls : List Content
    → Outcome S → Type 0) (before after : D) where
  -- where no outcome that is called for has more texts than there are outputs, there is room for them
  pub has-room : (most : ℕ) → most ≤ length outputs → most ≤ 3
      → ((contents : List Content) (outcome : Outcome S) → Calls contents outcome
      → length outcome.texts ≤ most) → (d : Decision S T)
      → Decides counts steady seen text_of faults 0 inputs Calls before after d → HasRoom outputs d
  has-room most low high few (decision.Prepared prepared) decided =
      let count : length (map text_of prepared.texts.items) ≤ most =
      few decided.shows.1.contents (outcome_of text_of decided.shows.0 prepared) decided.shows.1.called in (
        omega (arith, count, length-map prepared.texts.items text_of),
        omega (arith, count, length-map prepared.texts.items text_of),
      )
  has-room most low high few (decision.Unread slot) decided = tt
  has-room most low high few decision.NoMemory decided = tt
