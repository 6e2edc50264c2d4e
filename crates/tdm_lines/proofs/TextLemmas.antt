-- A text that goes on with a blank, with a token or with a line feed.
use Rattle.std.proofs.Common.{◌≡◌, ℕ, suc, ◌+◌, ◌-◌, ◌<◌, ◌⊎◌, inl, inr, Bool, true, false, not, ◌&&◌, ◌||◌, ◌==◌, cond, List, [], ◌∷◌, ◌++◌, length, take, drop, get_or, refl, ap, sym, ◌∙◌, subst, arith, eq-zero-or-pos, add-one}
use Rattle.std.specs.List.{list_all, before_first, after_first, position_or_len, slice_split, All, filter}
use Rattle.std.proofs.lemmas.Grind.{common_steps}
use Rattle.std.proofs.lemmas.List.Splits.{slice_split-cons_yes, slice_split_none, slice_split_at, slice_split_first}
use Rattle.std.proofs.lemmas.List.Sums.{AllPass-from_list_all, fails_before_first}
use Rattle.std.proofs.lemmas.List.{take_all, drop_all, append-nil}
use Rattle.std.proofs.Math.Seq.{drop-cons}
use Rattle.tdm_lines.specs.Tokens.{tokens, is_token, is_blank}
use Rattle.tdm_lines.specs.Lines.{pieces, put_line, lines_from}
use Rattle.tdm_lines.specs.Scan.{first_tokens, after_first_line, is_token_byte, SameAhead, BeginsWith}

module _ {X : Type 0} (p : X → Bool) where
  pub before_first-cons_yes : (x : X) (xs : List X) → p x ≡ true → before_first p (x ∷ xs) ≡ []
  before_first-cons_yes x xs e = ap (λ b. take (cond (not b) (1 + position_or_len p xs) 0) (x ∷ xs)) e

  pub before_first-cons_no : (x : X) (xs : List X) → p x ≡ false
      → before_first p (x ∷ xs) ≡ x ∷ before_first p xs
  before_first-cons_no x xs e =
      let next : 1 + position_or_len p xs ≡ suc (position_or_len p xs) = omega arith in
      ap (λ b. take (cond (not b) (1 + position_or_len p xs) 0) (x ∷ xs)) e ∙ ap (λ k. take k (x ∷ xs)) next

  pub after_first-cons_yes : (x : X) (xs : List X) → p x ≡ true → after_first p (x ∷ xs) ≡ xs
  after_first-cons_yes x xs e = ap (λ b. drop (cond (not b) (1 + position_or_len p xs) 0 + 1) (x ∷ xs)) e

  pub after_first-cons_no : (x : X) (xs : List X) → p x ≡ false → after_first p (x ∷ xs) ≡ after_first p xs
  after_first-cons_no x xs e =
      let next : 1 + position_or_len p xs + 1 ≡ suc (position_or_len p xs + 1) = omega arith in
      ap (λ b. drop (cond (not b) (1 + position_or_len p xs) 0 + 1) (x ∷ xs)) e
      ∙ ap (λ k. drop k (x ∷ xs)) next

-- a blank adds no token
pub tokens-blank : (byte : ℕ) (more : List ℕ) → is_blank byte ≡ true → tokens (byte ∷ more) ≡ tokens more
tokens-blank byte more e = ap (filter is_token) (slice_split-cons_yes is_blank byte more e)

-- a blank is no line feed
blank-no_feed : (byte : ℕ) → is_blank byte ≡ true → (byte == 10) ≡ false
blank-no_feed byte e = grind (arith, common_steps)

pub SameAhead-refl : (text : List ℕ) → SameAhead text text
SameAhead-refl text = record { same_tokens = refl; same_lines = refl }

-- past a blank the text goes on the same
pub SameAhead-blank : (text more : List ℕ) (byte : ℕ) → is_blank byte ≡ true → SameAhead text (byte ∷ more)
    → SameAhead text more
SameAhead-blank text more byte e h = record {
  same_tokens = h.same_tokens
      ∙ ap tokens (before_first-cons_no (λ b. b == 10) byte more (blank-no_feed byte e))
      ∙ tokens-blank byte (before_first (λ b. b == 10) more) e;
  same_lines = h.same_lines ∙ after_first-cons_no (λ b. b == 10) byte more (blank-no_feed byte e);
}

-- a text from a place on
pub drop-step : (bytes : List ℕ) (at : ℕ) → at < length bytes
    → drop at bytes ≡ get_or bytes at 0 ∷ drop (at + 1) bytes
drop-step bytes at lt = drop-cons bytes at 0 lt ∙ ap (λ k. get_or bytes at 0 ∷ drop k bytes)
    (sym (add-one at))

pub SameAhead-skip : (text bytes : List ℕ) (at : ℕ) → at < length bytes → is_blank (get_or bytes at 0) ≡ true
    → SameAhead text (drop at bytes) → SameAhead text (drop (at + 1) bytes)
SameAhead-skip text bytes at lt e h = let P : List ℕ → Type 0 = SameAhead text in
    SameAhead-blank text _ _ e (subst P (drop-step bytes at lt) h)

pub both : (a b : Bool) → (a && b) ≡ true → (a ≡ true) × (b ≡ true)
both true b h = (refl, h)
both false b h = absurd (cc)

neither : (a b : Bool) → not (a || b) ≡ true → (a ≡ false) × (b ≡ false)
neither false false h = (refl, refl)
neither false true h = absurd (cc)
neither true b h = absurd (cc)

one_of : (a b : Bool) → not (a || b) ≡ false → (a ≡ true) ⊎ ((a ≡ false) × (b ≡ true))
one_of false false h = absurd (cc)
one_of false true h = inr (refl, refl)
one_of true b h = inl refl

-- a text does not go on with a byte of a token
unfoldable pub IsCut : List ℕ → Type 0
IsCut [] = Unit {0}
IsCut (byte ∷ more) = is_token_byte byte ≡ false

pub IsCut-at : (bytes : List ℕ) (at : ℕ) → (at < length bytes → is_token_byte (get_or bytes at 0) ≡ false)
    → IsCut (drop at bytes)
unfolding IsCut
IsCut-at bytes at h =
    let P : List ℕ → Type 0 = IsCut in
    elim (eq-zero-or-pos (length bytes - at)) [
      | inl none ↦ subst P (sym (drop_all at bytes (omega arith))) tt
      | inr some ↦ subst P (sym (drop-step bytes at (omega arith))) (h (omega arith))
    ]

token-passes : (token : List ℕ) → 0 < length token → is_token token ≡ true
token-passes token some = grind (arith, common_steps)

-- the bytes before a text's end, or before its first blank, are a token
tokens-run : (token more : List ℕ) → list_all is_token_byte token ≡ true → 0 < length token
    → (more ≡ []) ⊎ ((byte : ℕ) × (later : List ℕ) × (more ≡ byte ∷ later) × (is_blank byte ≡ true))
    → tokens (token ++ more) ≡ token ∷ tokens more
tokens-run token more h some cut =
    let here : is_token token ≡ true = token-passes token some in
    let dark : All (λ x. is_blank x ≡ false) token =
    λ k d lt. (neither _ _ (AllPass-from_list_all is_token_byte token h k d lt)).1 in
    let kept : (rest : List (List ℕ)) → filter is_token (token ∷ rest) ≡ token ∷ filter is_token rest =
    λ rest. ap (λ c. cond c (token ∷ filter is_token rest) (filter is_token rest)) here in
    elim cut [
      | inl e ↦ rw e (ap tokens (append-nil token)
          ∙ ap (filter is_token) (slice_split_none is_blank token dark) ∙ kept [])
      | inr w ↦ rw w.2 (ap (filter is_token) (slice_split_at is_blank token w.0 w.1 dark w.3)
          ∙ kept (slice_split is_blank w.1) ∙ ap (λ ts. token ∷ ts) (sym (tokens-blank w.0 w.1 w.3)))
    ]

before-run : (token later : List ℕ) → list_all is_token_byte token ≡ true
    → before_first (λ b. b == 10) (token ++ later) ≡ token ++ before_first (λ b. b == 10) later
before-run [] later h = refl
before-run (x ∷ xs) later h =
    let split = both _ _ h in
    before_first-cons_no (λ b. b == 10) x (xs ++ later) (neither _ _ split.0).0
    ∙ ap (λ l. x ∷ l) (before-run xs later split.1)

after-run : (token later : List ℕ) → list_all is_token_byte token ≡ true
    → after_first_line (token ++ later) ≡ after_first_line later
after-run [] later h = refl
after-run (x ∷ xs) later h =
    let split = both _ _ h in
    after_first-cons_no (λ b. b == 10) x (xs ++ later) (neither _ _ split.0).0 ∙ after-run xs later split.1

cut_before : (later : List ℕ) → IsCut later → (before_first (λ b. b == 10) later ≡ [])
    ⊎ ((byte : ℕ) × (more : List ℕ) × (before_first (λ b. b == 10) later ≡ byte ∷ more)
    × (is_blank byte ≡ true))
unfolding IsCut
cut_before [] h = inl refl
cut_before (byte ∷ more) h = elim (one_of _ _ h) [
  | inl e ↦ inl (before_first-cons_yes (λ b. b == 10) byte more e)
  | inr w ↦ inr (byte, _, before_first-cons_no (λ b. b == 10) byte more w.0, w.1)
]

-- a run of bytes of a token before a cut is the first token
pub BeginsWith-run : (token later : List ℕ) → list_all is_token_byte token ≡ true → 0 < length token
    → IsCut later → BeginsWith (token ++ later) token later
BeginsWith-run token later h some cut = record {
  first = ap tokens (before-run token later h) ∙ tokens-run token _ h some (cut_before later cut);
  same_lines = after-run token later h;
}

-- a line is the tokens before the line feed, and the other lines follow it
pub lines_from-step : (max n : ℕ) (text : List ℕ) → lines_from max n (pieces text)
    ≡ put_line max n (first_tokens text) (lines_from max (n + 1) (pieces (after_first_line text)))
lines_from-step max n text =
    elim (eq-zero-or-pos (length text - position_or_len (λ b. b == 10) text)) [
      | inl none ↦
          let all : All (λ b. (b == 10) ≡ false) text = λ k d lt. fails_before_first (λ b. b == 10) text k d
          (omega arith) in
          let whole : before_first (λ b. b == 10) text ≡ text = take_all _ text (omega arith) in
          let nothing : after_first_line text ≡ [] = drop_all _ text (omega arith) in
          ap (lines_from max n) (slice_split_none (λ b. b == 10) text all) ∙ rw (whole, nothing)
      | inr some ↦ ap (lines_from max n) (slice_split_first (λ b. b == 10) text 0 (omega arith))
    ]
