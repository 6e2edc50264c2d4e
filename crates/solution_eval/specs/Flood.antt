use Rattle.std.specs.Prelude.{◌≡◌, ℕ, ◌<◌, ◌≤◌, ◌==◌, ◌⊎◌, List, [], ◌∷◌, length, take, map, count_by, slice_index, All, Contains}
use Rattle.solution_eval.specs.declared.flood.Step.{Step}

-- the steps lead one after another from a through the listed FPGAs, the last of which is b
abbrev pub IsPath : List Step → ℕ → List ℕ → ℕ → Type 0
IsPath steps a [] b = a ≡ b
IsPath steps a (x ∷ xs) b = Contains steps (record { from = a; to = x }) × IsPath steps x xs b

-- some steps lead from a to b
abbrev pub HasPath : List Step → ℕ → ℕ → Type 0
HasPath steps a b = (path : List ℕ) × IsPath steps a path b

-- no mark is above this one, and the queue lists the FPGAs that bear it, each once
pub record ListsMarked (mark : ℕ) (marks queue : List ℕ) : Type 0 where
  pub highest : All (λ m. m ≤ mark) marks
  pub marked : All (λ v. (v < length marks) × (slice_index marks v ≡ mark)) queue
  pub listed : (v : ℕ) → v < length marks → slice_index marks v ≡ mark → Contains queue v
  pub count : length queue ≡ count_by (λ m. m == mark) marks

-- the FPGAs to which these steps lead now bear the mark, and those that did not before stand behind the queue
pub record Reaches (steps : List Step) (mark : ℕ) (marks queue new_marks new_queue : List ℕ) : Type 0 where
  pub lists : ListsMarked mark new_marks new_queue
  pub same_size : length new_marks ≡ length marks
  pub kept : (v : ℕ) → slice_index marks v ≡ mark → slice_index new_marks v ≡ mark
  pub reached : All (λ (s : Step). slice_index new_marks s.to ≡ mark) steps
  pub first : take (length queue) new_queue ≡ queue
  pub only : All (λ w. Contains queue w ⊎ Contains (map (λ (s : Step). s.to) steps) w) new_queue
