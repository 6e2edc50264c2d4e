-- The sources of the nets, met one after another.
use Rattle.std.proofs.Common.{◌≡◌, ℕ, ◌+◌, ◌<◌, ◌≤◌, ◌⊎◌, Bool, true, false, cond, eqb, List, [], ◌∷◌, ◌++◌, length, get_or, take, map, refl, sym, ap, ◌∙◌, subst, inl, inr, arith}
use Rattle.std.specs.Prelude.{◌||◌, ◌==◌, slice_index, All}
use Rattle.std.specs.List.{list_any}
use Rattle.std.proofs.lemmas.Bool.{cases_lt}
use Rattle.std.proofs.lemmas.Bool.Decides.{eqb_tells}
use Rattle.std.proofs.lemmas.List.{get_or_append_left, get_or_push, length_push, get_or-map, length-map, take_all}
use Rattle.std.proofs.lemmas.List.Elements.{All-map, All-weaker}
use Rattle.indexmap.specs.IndexSet.{insert_key}
use Rattle.tdm_problem.specs.Board.{Board, IsBoard, IsRowBelow, without_repeats}
use Rattle.tdm_problem.specs.Firsts.{with_met}
use Rattle.tdm_problem.proofs.Repeats.{without_repeats-take_more, All-without_repeats, AllPairs-without_repeats}
use Rattle.bound_cert.proofs.Distinct.{length_of_distinct}
use Rattle.tdm_problem.specs.Legal.{source_of}
use Rattle.bound_cert.specs.Sources.{sources_of}
use Rattle.bound_cert.specs.Makers.{IsChoiceAmong, ChooseSources}

-- one entry more at the end of a list
pub each_pushed : {A : Type 0} (P : ℕ → A → Type 0) (xs : List A) (x d : A) (n : ℕ) → length xs ≡ n
    → ((k : ℕ) → k < n → P k (get_or xs k d)) → P n x → (k : ℕ) → k < n + 1 → P k (get_or (xs ++ x ∷ []) k d)
each_pushed {A} P xs x d n long each last k below = go (cases_lt k n)
  where
    go : (k < n) ⊎ (n ≤ k) → P k (get_or (xs ++ x ∷ []) k d)
    go (inl before) = subst (λ (y : A). P k y) (sym (get_or_append_left xs (x ∷ []) d k (omega arith)))
        (each k before)
    go (inr past) =
        let at : k ≡ n = omega arith in
        let there : get_or (xs ++ x ∷ []) k d ≡ x = get_or_push xs x d k (omega arith) in
        subst (λ (y : A). P k y) (sym there) (subst (λ (m : ℕ). P m x) (sym at) last)

-- equality of numbers is the test either way round
eqb_turned : (a b : ℕ) → eqb a b ≡ eqb b a
eqb_turned a b = go (eqb_tells a b) (eqb_tells b a)
  where
    go : ((eqb a b ≡ true) × (a ≡ b)) ⊎ ((eqb a b ≡ false) × (a ≡ b → ⊥)) → ((eqb b a ≡ true) × (b ≡ a))
        ⊎ ((eqb b a ≡ false) × (b ≡ a → ⊥)) → eqb a b ≡ eqb b a
    go (inl h) (inl k) = h.0 ∙ sym k.0
    go (inl h) (inr k) = absurd (k.1 (sym h.1))
    go (inr h) (inl k) = absurd (h.1 (sym k.1))
    go (inr h) (inr k) = h.0 ∙ sym k.0

any_turned : (x : ℕ) (keys : List ℕ) → list_any (eqb x) keys ≡ list_any (λ y. y == x) keys
any_turned x [] = refl
any_turned x (y ∷ keys) =
    ap (λ (b : Bool). b || list_any (eqb x) keys) (eqb_turned x y)
    ∙ ap (λ (b : Bool). (y == x) || b) (any_turned x keys)

-- a key is put into a set as a number is met
inserted_met : (keys : List ℕ) (x : ℕ) → insert_key eqb keys x ≡ with_met keys x
inserted_met keys x = ap (λ (b : Bool). cond b keys (keys ++ x ∷ [])) (any_turned x keys)

-- the keys that were there stay in their places
record AreKept (keys keys' : List ℕ) : Type 0 where
  more : length keys ≤ length keys'
  few : length keys' ≤ length keys + 1
  kept : (k : ℕ) → k < length keys → slice_index keys' k ≡ slice_index keys k

kept_met : (keys : List ℕ) (x : ℕ) (b : Bool) → AreKept keys (cond b keys (keys ++ x ∷ []))
kept_met keys x true = record { more = omega arith; few = omega arith; kept = λ k below. refl }
kept_met keys x false = record {
  more = omega (arith, length_push keys x);
  few = omega (arith, length_push keys x);
  kept = λ k below. get_or_append_left keys (x ∷ []) 0 k below;
}

-- the sources of the nets before net n, each once, and which of them each of these nets chooses
pub record AreSourcesBefore (board : Board) (n : ℕ) (keys choices : List ℕ) : Type 0 where
  pub keys_are : keys ≡ without_repeats (take n (map (λ net. slice_index net 0) board.nets))
  pub count : length choices ≡ n
  pub few : length keys ≤ n
  pub each : (k : ℕ) → k < n → IsChoiceAmong keys (source_of board k) (slice_index choices k)

pub AreSourcesBefore-none : (board : Board) (keys choices : List ℕ) → keys ≡ [] → choices ≡ []
    → AreSourcesBefore board 0 keys choices
AreSourcesBefore-none board keys choices no_keys no_choices = record {
  keys_are = no_keys;
  count = ap length no_choices;
  few = omega (arith, ap length no_keys);
  each = λ k below. absurd (omega arith);
}

-- what a net met before chooses among more keys
chosen_among_more : (keys keys' : List ℕ) → AreKept keys keys' → (source choice : ℕ)
    → IsChoiceAmong keys source choice → IsChoiceAmong keys' source choice
chosen_among_more keys keys' kept source choice chosen = record {
  place = chosen.place;
  there = omega (arith, chosen.there, kept.more);
  choice_is = chosen.choice_is;
  source_is = kept.kept chosen.place chosen.there ∙ chosen.source_is;
}

pub AreSourcesBefore-more : (board : Board) (n x place : ℕ) (keys keys' choices : List ℕ)
    → AreSourcesBefore board n keys choices → n < length board.nets → x ≡ source_of board n
    → keys' ≡ insert_key eqb keys x → place < length keys' → slice_index keys' place ≡ x
    → AreSourcesBefore board (n + 1) keys' (choices ++ (place + 1) ∷ [])
AreSourcesBefore-more board n x place keys keys' choices so_far there source inserted within found =
    let row : List ℕ = map (λ net. slice_index net 0) board.nets in
    let met : keys' ≡ with_met keys x = inserted ∙ inserted_met keys x in
    let kept : AreKept keys keys' = subst (λ (ks : List ℕ). AreKept keys ks) (sym met)
    (kept_met keys x (list_any (λ y. y == x) keys)) in
    let next : get_or row n 0 ≡ x = get_or-map (λ (net : List ℕ). slice_index net 0) board.nets n [] 0 there
    ∙ sym source in
    let row_long : n < length row =
    omega (arith, there, length-map board.nets (λ (net : List ℕ). slice_index net 0)) in
    let all : without_repeats (take (n + 1) row) ≡ with_met (without_repeats (take n row)) x =
    without_repeats-take_more row n 0 row_long
    ∙ ap (λ (y : ℕ). with_met (without_repeats (take n row)) y) next in
    record {
      keys_are = met ∙ ap (λ (ks : List ℕ). with_met ks x) so_far.keys_are ∙ sym all;
      count = omega (arith, length_push choices (place + 1), so_far.count);
      few = omega (arith, kept.few, so_far.few);
      each = each_pushed (λ k choice. IsChoiceAmong keys' (source_of board k) choice) choices
          (place + 1) 0 n so_far.count
          (λ k below. chosen_among_more keys keys' kept (source_of board k) (slice_index choices k)
          (so_far.each k below))
          (record { place = place; there = within; choice_is = refl; source_is = found ∙ source });
    }

-- after all nets
pub AreSourcesBefore-done : (board : Board) (n : ℕ) (keys choices : List ℕ)
    → AreSourcesBefore board n keys choices → length board.nets ≡ n
    → (keys ≡ sources_of board) × ChooseSources board choices
AreSourcesBefore-done board n keys choices so_far all =
    let row : List ℕ = map (λ net. slice_index net 0) board.nets in
    let whole : take n row ≡ row =
    take_all n row (omega (arith, all, length-map board.nets (λ (net : List ℕ). slice_index net 0))) in
    let keys_all : keys ≡ sources_of board = so_far.keys_are ∙ ap without_repeats whole in (
      keys_all,
      record {
        count = so_far.count ∙ sym all;
        each = λ k below.
            subst (λ (ks : List ℕ). IsChoiceAmong ks (source_of board k) (slice_index choices k)) keys_all
            (so_far.each k (omega (arith, below, all)));
      },
    )

-- a place among the keys is no greater than the number of nets before
pub place_small : (keys keys' : List ℕ) (x place n : ℕ) → keys' ≡ insert_key eqb keys x → place < length keys'
    → length keys ≤ n → place ≤ n
place_small keys keys' x place n inserted within few =
    let met : keys' ≡ with_met keys x = inserted ∙ inserted_met keys x in
    let kept : AreKept keys keys' = subst (λ (ks : List ℕ). AreKept keys ks) (sym met)
    (kept_met keys x (list_any (λ y. y == x) keys)) in
    omega (arith, kept.few)

-- the sources are FPGAs of the board, and no more than there are
pub sources_below : (board : Board) → IsBoard board → All (λ source. source < board.fpgas) (sources_of board)
sources_below board is =
    All-without_repeats (λ source. source < board.fpgas) (map (λ net. slice_index net 0) board.nets)
    (All-map (λ source. source < board.fpgas) (λ (net : List ℕ). slice_index net 0) board.nets
    (All-weaker (IsRowBelow board.fpgas) (λ net. slice_index net 0 < board.fpgas)
    (λ net row. row.below 0 0 row.some) board.nets is.nets))

pub sources_few : (board : Board) → IsBoard board → length (sources_of board) ≤ board.fpgas
sources_few board is =
    length_of_distinct (sources_of board) board.fpgas
    (AllPairs-without_repeats (map (λ net. slice_index net 0) board.nets)) (sources_below board is)
