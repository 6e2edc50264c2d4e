use Rattle.std.proofs.Common.{◌≡◌, ◌≢◌, ℕ, zero, suc, ◌+◌, ◌-◌, ◌<◌, ◌≤◌, List, [], ◌∷◌, ◌++◌, Some, length, take, drop, refl, sym, ap, subst, arith, length-append, length-drop, length-set}
use Rattle.std.specs.Prelude.{slice_get, slice_index, slice_index_or, slice_set, slice_range}
use Rattle.std.proofs.lemmas.List.{take-append-le, drop-append-le, take_all, length-take-le, drop-set-lt, drop-set-add, take-set-le, get_or_read}
use Rattle.std.proofs.Math.Seq.{drop-append_seam, take-set-lt}
use Rattle.flat_rows.specs.Rows.{rows_from, IsCutFrom, start_of_row}

-- there is a row for each end
pub length-rows_from : {X : Type 0} (start : ℕ) (ends : List ℕ) (items : List X)
    → length (rows_from start ends items) ≡ length ends
length-rows_from start [] items = refl
length-rows_from start (end ∷ ends) items = ap suc (length-rows_from end ends items)

-- the first row begins within the items
pub start-within : {X : Type 0} (start : ℕ) (ends : List ℕ) (items : List X) → IsCutFrom start ends items
    → start ≤ length items
start-within start [] items cut = omega (arith, cut)
start-within start (end ∷ ends) items cut = omega (arith, cut.0, start-within end ends items cut.1)

-- a row begins before it ends
pub start-before_end : {X : Type 0} (start : ℕ) (ends : List ℕ) (items : List X) (i : ℕ)
    → IsCutFrom start ends items → i < length ends → start_of_row start ends i ≤ slice_index ends i
start-before_end start [] items i cut there = absurd (omega arith)
start-before_end start (end ∷ ends) items zero cut there = cut.0
start-before_end start (end ∷ ends) items (suc i) cut there =
    start-before_end end ends items i cut.1 (omega arith)

-- a row ends within the items
pub end-within : {X : Type 0} (start : ℕ) (ends : List ℕ) (items : List X) (i : ℕ)
    → IsCutFrom start ends items → i < length ends → slice_index ends i ≤ length items
end-within start [] items i cut there = absurd (omega arith)
end-within start (end ∷ ends) items zero cut there = start-within end ends items cut.1
end-within start (end ∷ ends) items (suc i) cut there = end-within end ends items i cut.1 (omega arith)

-- row i is what stands between its start and its end
pub slice_get-rows_from : {X : Type 0} (start : ℕ) (ends : List ℕ) (items : List X) (i : ℕ) → i < length ends
    → slice_get (rows_from start ends items) i
    ≡ Some (slice_range items (start_of_row start ends i) (slice_index ends i))
slice_get-rows_from start [] items i there = absurd (omega arith)
slice_get-rows_from start (end ∷ ends) items zero there = refl
slice_get-rows_from start (end ∷ ends) items (suc i) there =
    slice_get-rows_from end ends items i (omega arith)

pub slice_index_or-rows_from : {X : Type 0} (start : ℕ) (ends : List ℕ) (items : List X) (i : ℕ) (d : List X)
    → i < length ends → slice_index_or (rows_from start ends items) i d
    ≡ slice_range items (start_of_row start ends i) (slice_index ends i)
slice_index_or-rows_from start [] items i d there = absurd (omega arith)
slice_index_or-rows_from start (end ∷ ends) items zero d there = refl
slice_index_or-rows_from start (end ∷ ends) items (suc i) d there =
    slice_index_or-rows_from end ends items i d (omega arith)

-- the start of a row after the first is the end of the row before
pub start_of_row-suc : (start : ℕ) (ends : List ℕ) (i : ℕ) → i < length ends → start_of_row start ends (suc i)
    ≡ slice_index ends i
start_of_row-suc start [] i there = absurd (omega arith)
start_of_row-suc start (end ∷ ends) zero there = refl
start_of_row-suc start (end ∷ ends) (suc i) there = start_of_row-suc end ends i (omega arith)

-- the start of a row after the first, looked up
pub start_of_row-after : (start : ℕ) (ends : List ℕ) (i : ℕ) → i ≢ 0 → i < length ends
    → slice_index ends (i - 1) ≡ start_of_row start ends i
start_of_row-after start ends zero later there = absurd (later refl)
start_of_row-after start ends (suc i) later there =
    let e : suc i - 1 ≡ i = omega arith in
    rw e (sym (start_of_row-suc start ends i (omega arith)))

-- where row i stands among the items, and that it is that row
pub record StandsAt {X : Type 0} (items : List X) (rows : List (List X)) (i start end : ℕ) : Type 0 where
  pub rises : start ≤ end
  pub within : end ≤ length items
  pub there : slice_get rows i ≡ Some (slice_range items start end)
  pub value : slice_index_or rows i [] ≡ slice_range items start end

-- a row has its end
pub end-there : {X : Type 0} (ends : List ℕ) (items : List X) {rows : List (List X)} {i : ℕ}
    → rows_from 0 ends items ≡ rows → i < length rows → i < length ends
end-there {X} ends items {rows} {i} view there = omega (
  arith,
  there,
  ap length view,
  length-rows_from 0 ends items,
)

-- the row between the start that is computed and the end that is read
pub stands_at : {X : Type 0} (ends : List ℕ) (items : List X) {rows : List (List X)} {i start end : ℕ}
    → rows_from 0 ends items ≡ rows → IsCutFrom 0 ends items → i < length rows → start ≡ start_of_row 0 ends i
    → end ≡ slice_index_or ends i end → StandsAt items rows i start end
stands_at {X} ends items {rows} {i} {start} {end} view cut there starts ends_at =
    let place : i < length ends = end-there ends items view there in
    let same : end ≡ slice_index ends i = get_or_read ends i end place ends_at 0 in
    record {
      rises = omega (arith, starts, same, start-before_end 0 ends items i cut place);
      within = omega (arith, same, end-within 0 ends items i cut place);
      there = rw (← view, starts, same) (slice_get-rows_from 0 ends items i place);
      value = rw (← view, starts, same) (slice_index_or-rows_from 0 ends items i [] place);
    }

-- a pushed row keeps the cut
pub IsCutFrom-push : {X : Type 0} (start : ℕ) (ends : List ℕ) (items row : List X)
    → IsCutFrom start ends items → IsCutFrom start (ends ++ length (items ++ row) ∷ []) (items ++ row)
IsCutFrom-push start [] items row cut = (omega (arith, cut, length-append items row), refl)
IsCutFrom-push start (end ∷ ends) items row cut = (cut.0, IsCutFrom-push end ends items row cut.1)

-- a range within the first part of a list
pub slice_range-append : {X : Type 0} (xs ys : List X) (i j : ℕ) → i ≤ j → j ≤ length xs
    → slice_range (xs ++ ys) i j ≡ slice_range xs i j
slice_range-append xs ys i j h k =
    let within : i ≤ length xs = omega arith in
    let short : j - i ≤ length (drop i xs) = omega (arith, length-drop i xs) in
    rw (drop-append-le i xs ys within) (take-append-le (j - i) (drop i xs) ys short)

-- the rest of a list with another behind it
slice_range-rest : {X : Type 0} (xs ys : List X) → slice_range (xs ++ ys) (length xs) (length (xs ++ ys)) ≡ ys
slice_range-rest xs ys =
    rw (drop-append_seam xs ys) (take_all (length (xs ++ ys) - length xs) ys
    (omega (arith, length-append xs ys)))

-- a pushed row is the last
pub rows_from-push : {X : Type 0} (start : ℕ) (ends : List ℕ) (items row : List X)
    → IsCutFrom start ends items → rows_from start (ends ++ length (items ++ row) ∷ []) (items ++ row)
    ≡ rows_from start ends items ++ row ∷ []
rows_from-push start [] items row cut = rw cut (ap (λ (r : List _). r ∷ []) (slice_range-rest items row))
rows_from-push start (end ∷ ends) items row cut =
    let front = slice_range-append items row start end cut.0 (start-within end ends items cut.1) in
    rw (front, rows_from-push end ends items row cut.1)

-- a write changes no end
pub IsCutFrom-set : {X : Type 0} (start : ℕ) (ends : List ℕ) (items : List X) (k : ℕ) (v : X)
    → IsCutFrom start ends items → IsCutFrom start ends (slice_set items k v)
IsCutFrom-set start [] items k v cut = omega (arith, cut, length-set items k v)
IsCutFrom-set start (end ∷ ends) items k v cut = (cut.0, IsCutFrom-set end ends items k v cut.1)

-- no row begins before the first
start-first : {X : Type 0} (start : ℕ) (ends : List ℕ) (items : List X) (i : ℕ) → IsCutFrom start ends items
    → i < length ends → start ≤ start_of_row start ends i
start-first start [] items i cut there = absurd (omega arith)
start-first start (end ∷ ends) items zero cut there = omega arith
start-first start (end ∷ ends) items (suc i) cut there =
    omega (arith, cut.0, start-first end ends items i cut.1 (omega arith))

-- a write before a range
slice_range-set_before : {X : Type 0} (xs : List X) (k i j : ℕ) (v : X) → k < i
    → slice_range (slice_set xs k v) i j ≡ slice_range xs i j
slice_range-set_before xs k i j v before = ap (take (j - i)) (drop-set-lt i xs k v before)

-- a write within a range
slice_range-set_within : {X : Type 0} (xs : List X) (i j p : ℕ) (v : X) → p < j - i
    → slice_range (slice_set xs (i + p) v) i j ≡ slice_set (slice_range xs i j) p v
slice_range-set_within xs i j p v within =
    rw (drop-set-add i xs p v) (take-set-lt (j - i) (drop i xs) p v within)

-- a write behind a range
slice_range-set_behind : {X : Type 0} (xs : List X) (i j k : ℕ) (v : X) → i ≤ j → j ≤ k
    → slice_range (slice_set xs k v) i j ≡ slice_range xs i j
slice_range-set_behind xs i j k v rises behind =
    let e : i + (k - i) ≡ k = omega arith in
    let moved : drop i (slice_set xs k v) ≡ slice_set (drop i xs) (k - i) v =
    subst (λ (m : ℕ). drop i (slice_set xs m v) ≡ slice_set (drop i xs) (k - i) v) e
    (drop-set-add i xs (k - i) v) in
    rw moved (take-set-le (j - i) (drop i xs) (k - i) v (omega arith))

-- a write before the first row changes no row
rows_from-set_before : {X : Type 0} (start : ℕ) (ends : List ℕ) (items : List X) (k : ℕ) (v : X)
    → IsCutFrom start ends items → k < start → rows_from start ends (slice_set items k v)
    ≡ rows_from start ends items
rows_from-set_before start [] items k v cut before = refl
rows_from-set_before start (end ∷ ends) items k v cut before =
    rw (
      slice_range-set_before items k start end v before,
      rows_from-set_before end ends items k v cut.1 (omega (arith, cut.0)),
    )

-- a write at a place of a row changes that item of that row
pub rows_from-set : {X : Type 0} (start : ℕ) (ends : List ℕ) (items : List X) (i p : ℕ) (v : X)
    → IsCutFrom start ends items → i < length ends → p < slice_index ends i - start_of_row start ends i
    → rows_from start ends (slice_set items (start_of_row start ends i + p) v)
    ≡ slice_set (rows_from start ends items) i (slice_set (slice_index_or (rows_from start ends items) i []) p
    v)
rows_from-set start [] items i p v cut there within = absurd (omega arith)
rows_from-set start (end ∷ ends) items zero p v cut there within =
    rw (
      slice_range-set_within items start end p v within,
      rows_from-set_before end ends items (start + p) v cut.1 (omega arith),
    )
rows_from-set start (end ∷ ends) items (suc i) p v cut there within =
    let later : end ≤ start_of_row end ends i = start-first end ends items i cut.1 (omega arith) in
    rw (
      slice_range-set_behind items start end (start_of_row end ends i + p) v cut.0 (omega arith),
      rows_from-set end ends items i p v cut.1 (omega arith) within,
    )

-- how long a row is
pub length-slice_range : {X : Type 0} (xs : List X) (i j : ℕ) → i ≤ j → j ≤ length xs
    → length (slice_range xs i j) ≡ j - i
length-slice_range xs i j rises within =
    length-take-le (j - i) (drop i xs) (omega (arith, length-drop i xs))

-- the items and the ends after a push are again a cut, and its rows are the old ones with the new at the end
pub record IsPushed {X : Type 0} (ends : List ℕ) (items : List X) (rows : List (List X))
    (row : List X) : Type 0 where
  pub cut : IsCutFrom 0 ends items
  pub view : rows_from 0 ends items ≡ rows ++ row ∷ []

pub row_pushed : {X : Type 0} (ends new_ends : List ℕ) (items new_items : List X) {rows : List (List X)}
    {row : List X} {end : ℕ} → rows_from 0 ends items ≡ rows → IsCutFrom 0 ends items
    → new_items ≡ items ++ row → end ≡ length new_items → new_ends ≡ ends ++ end ∷ []
    → IsPushed new_ends new_items rows row
row_pushed {X} ends new_ends items new_items {rows} {row} {end} view cut longer ends_at ended =
    rw (ended, ends_at, longer, ← view)
    (record { cut = IsCutFrom-push 0 ends items row cut; view = rows_from-push 0 ends items row cut })

-- a write at a place of a row is within the items, keeps the cut, and changes that item of that row
pub record IsWritten {X : Type 0} (ends : List ℕ) (items : List X) (rows : List (List X)) (i place at : ℕ)
    (item : X) : Type 0 where
  pub within : at < length items
  pub cut : IsCutFrom 0 ends (slice_set items at item)
  pub view : rows_from 0 ends (slice_set items at item)
      ≡ slice_set rows i (slice_set (slice_index_or rows i []) place item)

pub row_written : {X : Type 0} (ends : List ℕ) (items : List X) {rows : List (List X)} {i start : ℕ}
    (place : ℕ) (item : X) → rows_from 0 ends items ≡ rows → IsCutFrom 0 ends items → i < length rows
    → place < length (slice_index_or rows i []) → start ≡ start_of_row 0 ends i
    → IsWritten ends items rows i place (start + place) item
row_written {X} ends items {rows} {i} {start} place item view cut there place_there starts =
    let ended : i < length ends = end-there ends items view there in
    let rises = start-before_end 0 ends items i cut ended in
    let within = end-within 0 ends items i cut ended in
    let row : slice_index_or rows i [] ≡ slice_range items (start_of_row 0 ends i) (slice_index ends i) =
    rw (← view) (slice_index_or-rows_from 0 ends items i [] ended) in
    let short : place < slice_index ends i - start_of_row 0 ends i =
    omega (
      arith,
      place_there,
      ap length row,
      length-slice_range items (start_of_row 0 ends i) (slice_index ends i) rises within,
    ) in
    record {
      within = omega (arith, starts, short, rises, within);
      cut = IsCutFrom-set 0 ends items (start + place) item cut;
      view = rw (starts, ← view) (rows_from-set 0 ends items i place item cut ended short);
    }
