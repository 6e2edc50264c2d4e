-- Rows that stand apart in one list, after a write and after one more.
use Rattle.std.proofs.Common.{◌≡◌, ◌≢◌, ℕ, zero, suc, ◌+◌, ◌-◌, ◌<◌, ◌≤◌, List, [], ◌∷◌, ◌++◌, length, take, drop, refl, sym, ap, ◌∙◌, subst, inl, inr, ⊎_elim, arith, append_assoc, length-append, length-drop, length-set, get_or-set_same, get_or-set_other}
use Rattle.std.specs.Prelude.{map, slice_range, slice_index_or, slice_set, AllPairs}
use Rattle.std.proofs.lemmas.List.{map-set, map-append, length-map, get_or_read, take-append-drop, length-take-le}
use Rattle.std.proofs.lemmas.List.Elements.{All-set, All-get_or, All-append, All-cons}
use Rattle.std.proofs.lemmas.List.Quantifiers.{all_pairs_push}
use Rattle.std.proofs.lemmas.Bool.{cases_eq, cases_lt}
use Rattle.std.proofs.lemmas.Slice.{drop-append-drop}
use Rattle.std.proofs.Math.Seq.{drop-append_seam, take-append_seam}
use Rattle.flat_rows.proofs.CutRows.{slice_range-append}
use Rattle.tdm_problem.specs.declared.pool.Spot.{Spot}
use Rattle.tdm_problem.specs.Pool.{row_at, rows_at, IsRoomy, AreApart, IsPool, IsAppended}

-- what stands between two other parts
range_middle : (xs row zs : List ℕ) → slice_range (xs ++ (row ++ zs)) (length xs) (length xs + length row)
    ≡ row
range_middle xs row zs =
    let e : (length xs + length row) - length xs ≡ length row = omega arith in
    rw (drop-append_seam xs (row ++ zs), e) (take-append_seam row zs)

-- a range before a cut
range_take : (xs : List ℕ) (p i j : ℕ) → i ≤ j → j ≤ p → p ≤ length xs
    → slice_range (take p xs) i j ≡ slice_range xs i j
range_take xs p i j rises before within =
    let short : j ≤ length (take p xs) = omega (arith, length-take-le p xs within, before) in
    sym (subst (λ (ys : List ℕ). slice_range ys i j ≡ slice_range (take p xs) i j) (take-append-drop p xs)
    (slice_range-append (take p xs) (drop p xs) i j rises short))

-- a row has found a new spot: it stands there, and no other row is touched
pub record IsPlaced (old items row : List ℕ) (spot new : Spot) : Type 0 where
  pub row_there : row_at items new ≡ row
  pub roomy : IsRoomy items new
  pub longer : length old ≤ length items
  pub kept : (other : Spot) → IsRoomy old other → AreApart spot other → row_at items other ≡ row_at old other
  pub apart : (other : Spot) → IsRoomy old other → AreApart spot other → AreApart new other

-- a row that is written over the room of a spot
pub IsPlaced-write : (old items row : List ℕ) (spot : Spot) → IsRoomy old spot → length row ≤ spot.room
    → items ≡ take spot.place old ++ (row ++ drop (spot.place + length row) old)
    → IsPlaced old items row spot (record { place = spot.place; length = length row; room = spot.room })
IsPlaced-write old items row spot roomy short are =
    let front : length (take spot.place old) ≡ spot.place =
    length-take-le spot.place old (omega (arith, roomy.within)) in
    let size : length items ≡ length old =
    omega (
      arith,
      ap length are,
      length-append (take spot.place old) (row ++ drop (spot.place + length row) old),
      length-append row (drop (spot.place + length row) old),
      length-drop (spot.place + length row) old,
      front,
      roomy.within,
      short,
    ) in
    record {
      row_there =
          rw are (subst (λ (p : ℕ). slice_range
          (take spot.place old ++ (row ++ drop (spot.place + length row) old)) p (p + length row)
          ≡ row) front
          (range_middle (take spot.place old) row (drop (spot.place + length row) old)));
      roomy = record { short = short; within = omega (arith, size, roomy.within) };
      longer = omega (arith, size);
      kept = λ other there apart. ⊎_elim
          (λ (behind : spot.place + spot.room ≤ other.place).
          let ends : length (take spot.place old ++ row) ≡ spot.place + length row =
          omega (arith, length-append (take spot.place old) row, front) in
          let rest : drop other.place items ≡ drop other.place old =
          rw (are, ← append_assoc) (drop-append-drop (spot.place + length row) old
          (take spot.place old ++ row) other.place (omega (arith, behind, short)) ends) in
          ap (take ((other.place + other.length) - other.place)) rest)
          (λ (before : other.place + other.room ≤ spot.place).
          let rises : other.place ≤ other.place + other.length = omega arith in
          let ends : other.place + other.length ≤ spot.place = omega (arith, before, there.short) in
          rw are
          (slice_range-append (take spot.place old) (row ++ drop (spot.place + length row) old) other.place
          (other.place + other.length) rises (omega (arith, ends, front))
          ∙ range_take old spot.place other.place (other.place + other.length) rises ends
          (omega (arith, roomy.within))))
          apart;
      apart = λ other there apart. apart;
    }

-- what is put behind the items leaves their rows
append-keeps : (old items row : List ℕ) (new other : Spot) → IsAppended old row items new → IsRoomy old other
    → row_at items other ≡ row_at old other
append-keeps old items row new other is there =
    rw (is.items_are ∙ append_assoc old row (0 ∷ []))
    (slice_range-append old (row ++ 0 ∷ []) other.place (other.place + other.length) (omega arith)
    (omega (arith, there.short, there.within)))

-- a row that is put behind all others
pub IsPlaced-append : (old items row : List ℕ) (spot new : Spot) → IsAppended old row items new
    → IsPlaced old items row spot new
IsPlaced-append old items row spot new is =
    let items_are : items ≡ old ++ (row ++ 0 ∷ []) = is.items_are ∙ append_assoc old row (0 ∷ []) in
    let size : length items ≡ length old + (length row + 1) =
    omega (arith, ap length items_are, length-append old (row ++ 0 ∷ []), length-append row (0 ∷ [])) in
    record {
      row_there = rw (items_are, is.place_is, is.length_is) (range_middle old row (0 ∷ []));
      roomy = record {
        short = omega (arith, is.length_is, is.room_is);
        within = omega (arith, size, is.place_is, is.room_is);
      };
      longer = omega (arith, size);
      kept = λ other there apart. append-keeps old items row new other is there;
      apart = λ other there apart. inr (omega (arith, is.place_is, there.within));
    }

-- the items and spots are a pool with these rows
pub record HasRows (items : List ℕ) (spots : List Spot) (rows : List (List ℕ)) : Type 0 where
  pub pool : IsPool items spots
  pub view : rows_at items spots ≡ rows

map_agree : {X : Type 0} (f g : X → List ℕ) (xs : List X)
    → ((j : ℕ) (d : X) → j < length xs → f (slice_index_or xs j d) ≡ g (slice_index_or xs j d))
    → map f xs ≡ map g xs
map_agree f g [] agree = refl
map_agree f g (x ∷ xs) agree =
    rw (agree 0 x (omega arith), map_agree f g xs (λ j d there. agree (suc j) d (omega (arith, there)))) refl

-- functions that agree on all items but one, whose place is written over
set_agree : {X : Type 0} (f g : X → List ℕ) (xs : List X) (i : ℕ) (w : List ℕ)
    → ((j : ℕ) (d : X) → j < length xs → j ≢ i → f (slice_index_or xs j d) ≡ g (slice_index_or xs j d))
    → slice_set (map f xs) i w ≡ slice_set (map g xs) i w
set_agree f g [] i w agree = refl
set_agree f g (x ∷ xs) zero w agree =
    ap (λ (rows : List (List ℕ)). w ∷ rows)
    (map_agree f g xs (λ j d there. agree (suc j) d (omega (arith, there))
    (λ (e : suc j ≡ 0). omega (arith, e))))
set_agree f g (x ∷ xs) (suc i) w agree =
    rw (
      agree 0 x (omega arith) (λ (e : 0 ≡ suc i). omega (arith, e)),
      set_agree f g xs i w (λ j d there other. agree (suc j) d (omega (arith, there))
          (λ (e : suc j ≡ suc i). other (omega (arith, e)))),
    ) refl

AreApart-sym : (a b : Spot) → AreApart a b → AreApart b a
AreApart-sym a b apart = ⊎_elim (λ (before : a.place + a.room ≤ b.place). inr before)
    (λ (behind : b.place + b.room ≤ a.place). inl behind) apart

-- two places of a list of spots that stand apart
apart-at : (spots : List Spot) (i j : ℕ) (d : Spot) → AllPairs AreApart spots → i < length spots
    → j < length spots → j ≢ i → AreApart (slice_index_or spots i d) (slice_index_or spots j d)
apart-at spots i j d apart here there other =
    ⊎_elim
    (λ (before : i < j). apart i j d before there)
    (λ (behind : j ≤ i). AreApart-sym (slice_index_or spots j d) (slice_index_or spots i d)
    (apart j i d (omega (arith, behind, other)) here))
    (cases_lt i j)

-- row i has found a new spot
pub HasRows-placed : (old items : List ℕ) (spots : List Spot) {rows : List (List ℕ)} {i : ℕ} (spot new : Spot)
    (row : List ℕ) → IsPool old spots → rows_at old spots ≡ rows → i < length rows
    → spot ≡ slice_index_or spots i spot → IsPlaced old items row spot new
    → HasRows items (slice_set spots i new) (slice_set rows i row)
HasRows-placed old items spots {rows} {i} spot new row pool view there spot_is is =
    let here : i < length spots = omega (
      arith,
      there,
      ap length view,
      length-map spots (λ (s : Spot). row_at old s),
    ) in
    let spot_at : (d : Spot) → slice_index_or spots i d ≡ spot =
    λ d. sym (get_or_read spots i spot here spot_is d) in
    let roomy : (j : ℕ) (d : Spot) → j < length spots → IsRoomy old (slice_index_or spots j d) =
    λ j d below. All-get_or (IsRoomy old) spots j d below pool.roomy in
    let apart : (j : ℕ) (d : Spot) → j < length spots → j ≢ i → AreApart spot (slice_index_or spots j d) =
    λ j d below other. subst (λ (s : Spot). AreApart s (slice_index_or spots j d)) (spot_at d)
    (apart-at spots i j d pool.apart here below other) in
    let new_apart : (j : ℕ) (d : Spot) → j < length spots → j ≢ i → AreApart new (slice_index_or spots j d) =
    λ j d below other. is.apart (slice_index_or spots j d) (roomy j d below) (apart j d below other) in
    record {
      pool = record {
        roomy =
            All-set (IsRoomy items) spots i new is.roomy
            (λ j d below. record {
              short = (roomy j d below).short;
              within = omega (arith, (roomy j d below).within, is.longer);
            });
        apart = λ j k d rises below.
            let last : k < length spots = omega (arith, below, length-set spots i new) in
            ⊎_elim
            (λ (first : j ≡ i).
            let other : k ≢ i = λ (e : k ≡ i). omega (arith, e, first, rises) in
            rw (first, get_or-set_same spots i new d here, get_or-set_other spots i k new d other)
            (new_apart k d last other))
            (λ (first_other : j ≢ i).
            ⊎_elim
            (λ (second : k ≡ i).
            rw (second, get_or-set_same spots i new d here, get_or-set_other spots i j new d first_other)
            (AreApart-sym new (slice_index_or spots j d)
            (new_apart j d (omega (arith, rises, last)) first_other)))
            (λ (second_other : k ≢ i).
            rw (get_or-set_other spots i j new d first_other, get_or-set_other spots i k new d second_other)
            (pool.apart j k d rises last))
            (cases_eq k i))
            (cases_eq j i);
      };
      view =
          map-set (λ (s : Spot). row_at items s) spots i new
          ∙ ap (λ (r : List ℕ). slice_set (map (λ (s : Spot). row_at items s) spots) i r) is.row_there
          ∙ set_agree (λ (s : Spot). row_at items s) (λ (s : Spot). row_at old s) spots i row
          (λ j d below other. is.kept (slice_index_or spots j d) (roomy j d below)
          (apart j d below other))
          ∙ ap (λ (rs : List (List ℕ)). slice_set rs i row) view;
    }

-- one more row stands behind all others
pub HasRows-pushed : (old items : List ℕ) (spots : List Spot) {rows : List (List ℕ)} (new : Spot)
    (row : List ℕ) → IsPool old spots → rows_at old spots ≡ rows → IsAppended old row items new
    → HasRows items (spots ++ new ∷ []) (rows ++ row ∷ [])
HasRows-pushed old items spots {rows} new row pool view appended =
    let is : (spot : Spot) → IsPlaced old items row spot new =
    λ spot. IsPlaced-append old items row spot new appended in
    let roomy : (j : ℕ) (d : Spot) → j < length spots → IsRoomy old (slice_index_or spots j d) =
    λ j d below. All-get_or (IsRoomy old) spots j d below pool.roomy in
    let before : (s : Spot) → IsRoomy old s → (new.place ≡ length old) → AreApart s new =
    λ s there place_is. inl (omega (arith, there.within, place_is)) in
    record {
      pool = record {
        roomy =
            All-append (IsRoomy items) spots (new ∷ [])
            (λ j d below. record {
              short = (roomy j d below).short;
              within = omega (arith, (roomy j d below).within, (is new).longer);
            })
            (All-cons (IsRoomy items) new [] (is new).roomy (λ j d none. absurd (omega (arith, none))));
        apart =
            all_pairs_push AreApart spots new pool.apart
            (λ j d below. before (slice_index_or spots j d) (roomy j d below) appended.place_is);
      };
      view =
          map-append (λ (s : Spot). row_at items s) spots (new ∷ [])
          ∙ (rw (
            (is new).row_there,
            map_agree (λ (s : Spot). row_at items s) (λ (s : Spot). row_at old s) spots
                (λ j d below. append-keeps old items row new (slice_index_or spots j d) appended
                (roomy j d below)),
            view,
          ) refl);
    }

-- row i is written over its room
pub HasRows-written : (old items : List ℕ) (spots : List Spot) {rows : List (List ℕ)} {i : ℕ} (spot : Spot)
    (row : List ℕ) → IsPool old spots → rows_at old spots ≡ rows → i < length rows
    → spot ≡ slice_index_or spots i spot → length row ≤ spot.room
    → items ≡ take spot.place old ++ (row ++ drop (spot.place + length row) old)
    → HasRows items (slice_set spots i (record { place = spot.place; length = length row; room = spot.room }))
    (slice_set rows i row)
HasRows-written old items spots {rows} {i} spot row pool view there spot_is short are =
    let here : i < length spots = omega (
      arith,
      there,
      ap length view,
      length-map spots (λ (s : Spot). row_at old s),
    ) in
    let roomy : IsRoomy old spot =
    subst (λ (s : Spot). IsRoomy old s) (sym spot_is)
    (All-get_or (IsRoomy old) spots i spot here pool.roomy) in
    HasRows-placed old items spots spot (record { place = spot.place; length = length row; room = spot.room })
    row pool view there spot_is
    (IsPlaced-write old items row spot roomy short are)
