use Rattle.std.specs.Prelude.{◌≡◌, ℕ, zero, suc, ◌≤◌, List, [], ◌∷◌, length, slice_range}

-- the rows that the ends cut from the items, the first of them beginning at a place
abbrev pub rows_from : {X : Type 0} → ℕ → List ℕ → List X → List (List X)
rows_from start [] items = []
rows_from start (end ∷ ends) items = slice_range items start end ∷ rows_from end ends items

-- the ends rise from the place where the first row begins, and the last is the end of the items
abbrev pub IsCutFrom : {X : Type 0} → ℕ → List ℕ → List X → Type 0
IsCutFrom start [] items = start ≡ length items
IsCutFrom start (end ∷ ends) items = (start ≤ end) × IsCutFrom end ends items

-- where row i begins: at the end of the row before it
abbrev pub start_of_row : ℕ → List ℕ → ℕ → ℕ
start_of_row start ends zero = start
start_of_row start [] (suc i) = start
start_of_row start (end ∷ ends) (suc i) = start_of_row end ends i
