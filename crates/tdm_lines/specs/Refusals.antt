-- What texts of any kind say, or the first refusal.
use Rattle.std.specs.Prelude.{◌≡◌, ℕ, List, [], ◌∷◌, Option, None, Some, Result, Ok, Err}
use Rattle.tdm_lines.specs.declared.line.TokenFault.{TokenFault}
use Rattle.tdm_lines.specs.Lines.{Line}
use Rattle.tdm_lines.specs.declared.refusal.Refusal.{Refusal}
use Rattle.tdm_lines.specs.declared.refusal.ReadingFault.{ReadingFault}
use Rattle.tdm_lines.specs.declared.refusal.ReadingFault.TheVariants.{Refused, NoMemory}

-- a refusal of this kind, which names this line
abbrev pub refused : {A K : Type 0} → K → ℕ → Result A (Refusal K)
refused kind line = Err (record { kind = kind; line = line })

infixl 10 ◌>>=◌
-- the first refusal stands
abbrev pub ◌>>=◌ : {A B K : Type 0} → Result A (Refusal K) → (A → Result B (Refusal K)) → Result B (Refusal K)
(Ok said) >>= next = next said
(Err refusal) >>= next = Err refusal

-- line n is refused where its tokens have a fault
abbrev pub clean : {K : Type 0} → (TokenFault → K) → ℕ → Option TokenFault → Result (Unit {0}) (Refusal K)
clean of_token n None = Ok tt
clean of_token n (Some fault) = refused (of_token fault) n

-- what line n says, by what its numbers say
abbrev pub line_said : {A K : Type 0} → (TokenFault → K) → (ℕ → List ℕ → Result A (Refusal K)) → ℕ
    → Option TokenFault → List ℕ → Result A (Refusal K)
line_said of_token said n fault numbers = clean of_token n fault >>= λ _. said n numbers

-- the line and those behind it, unless its tokens have a fault
abbrev pub unless_bad : {K : Type 0} → (TokenFault → K) → Option TokenFault → Line → List Line
    → Result (Line × List Line) (Refusal K)
unless_bad of_token None line more = Ok (line, more)
unless_bad of_token (Some fault) line more = refused (of_token fault) line.number

-- the next line and those behind it; where none is left, what is missing is named by the line after the text
abbrev pub next_line : {K : Type 0} → (TokenFault → K) → ℕ → K → List Line
    → Result (Line × List Line) (Refusal K)
next_line of_token after missing [] = refused missing after
next_line of_token after missing (line ∷ more) = unless_bad of_token line.fault line more

-- the fault is the refusal that reading comes to, or want of memory, which says nothing of the text
abbrev pub IsFaultOf : {A K : Type 0} → ReadingFault K → Result A (Refusal K) → Type 0
IsFaultOf NoMemory read = Unit {0}
IsFaultOf (Refused refusal) read = read ≡ Err refusal

-- reading comes to what it comes to after this answer, or the answer is the fault
abbrev pub Leads : {X A K : Type 0} → Result X (ReadingFault K) → Result A (Refusal K)
    → (X → Result A (Refusal K)) → Type 0
Leads (Ok x) read after = read ≡ after x
Leads (Err fault) read after = IsFaultOf fault read
