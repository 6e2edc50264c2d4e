-- What a text's lines are as far as it has come, with more bytes.
use Rattle.std.proofs.Common.{◌≡◌, ℕ, ◌+◌, true, false, ◌==◌, cond, Bool, List, [], ◌∷◌, ◌++◌, refl, ap, sym, ◌∙◌, arith, append_assoc}
use Rattle.std.specs.List.{list_all}
use Rattle.std.proofs.lemmas.Grind.{common_steps}
use Rattle.std.proofs.lemmas.List.{append-nil}
use Rattle.tdm_lines.specs.Tokens.{tokens, is_blank}
use Rattle.tdm_lines.specs.Lines.{Line, lines, lines_from, put_line, pieces}
use Rattle.tdm_lines.specs.Scan.{first_tokens, after_first_line, is_token_byte}
use Rattle.tdm_lines.specs.Pending.{unfinished}
use Rattle.tdm_lines.specs.SoFar.{IsSoFar, token_there}
use Rattle.tdm_lines.proofs.TextLemmas.{lines_from-step, BeginsWith-run, IsCut, SameAhead-blank, SameAhead-refl, before_first-cons_yes, after_first-cons_yes}
use Rattle.tdm_lines.proofs.PendingLemmas.{unfinished-run, unfinished-end}
use Rattle.tdm_lines.proofs.AppendLemmas.{put_line-append}

kept_bytes : (whole later : List ℕ) (b : Bool) → list_all is_token_byte whole ≡ b
    → list_all is_token_byte later ≡ true → list_all is_token_byte (cond b whole later) ≡ true
kept_bytes whole later true is all = is
kept_bytes whole later false is all = all

-- what is unfinished is bytes of a token
pub unfinished-bytes : (text : List ℕ) → list_all is_token_byte (unfinished text) ≡ true
unfinished-bytes [] = refl
unfinished-bytes (x ∷ xs) = kept_bytes (x ∷ xs) (unfinished xs) (list_all is_token_byte (x ∷ xs)) refl
    (unfinished-bytes xs)

-- before the first byte
pub so_far-start : (max : ℕ) → IsSoFar max 1 [] [] []
so_far-start max rest = lines_from-step max 1 rest

-- with a run of bytes of a token
pub so_far-run : (max n : ℕ) (text run : List ℕ) (done : List Line) (toks : List (List ℕ))
    → list_all is_token_byte run ≡ true → IsSoFar max n text done toks → IsSoFar max n (text ++ run) done toks
so_far-run max n text run done toks all so rest =
    let more : unfinished text ++ (run ++ rest) ≡ unfinished (text ++ run) ++ rest =
    sym (append_assoc (unfinished text) run rest)
    ∙ ap (λ t. t ++ rest) (sym (unfinished-run text run all)) in
    ap (lines max) (append_assoc text run rest) ∙ so (run ++ rest)
    ∙ ap (λ t. done ++ put_line max n (toks ++ first_tokens t)
    (lines_from max (n + 1) (pieces (after_first_line t)))) more

-- what follows a token that a blank ends
blank-ahead : (token rest : List ℕ) (byte : ℕ) → list_all is_token_byte token ≡ true → is_blank byte ≡ true
    → (first_tokens (token ++ byte ∷ rest) ≡ token_there token ++ first_tokens rest)
    × (after_first_line (token ++ byte ∷ rest) ≡ after_first_line rest)
unfolding IsCut
blank-ahead [] rest byte all blank =
    let same = SameAhead-blank (byte ∷ rest) rest byte blank (SameAhead-refl (byte ∷ rest)) in
    (same.same_tokens, same.same_lines)
blank-ahead (x ∷ xs) rest byte all blank =
    let same = SameAhead-blank (byte ∷ rest) rest byte blank (SameAhead-refl (byte ∷ rest)) in
    let begins = BeginsWith-run (x ∷ xs) (byte ∷ rest) all (omega arith) (grind (arith, common_steps)) in
    (begins.first ∙ ap (λ ts. (x ∷ xs) ∷ ts) same.same_tokens, begins.same_lines ∙ same.same_lines)

-- what follows a token that a line feed ends
feed-ahead : (token rest : List ℕ) → list_all is_token_byte token ≡ true
    → (first_tokens (token ++ 10 ∷ rest) ≡ token_there token) × (after_first_line (token ++ 10 ∷ rest) ≡ rest)
unfolding IsCut
feed-ahead [] rest all = (
  ap tokens (before_first-cons_yes (λ b. b == 10) 10 rest refl),
  after_first-cons_yes (λ b. b == 10) 10 rest refl,
)
feed-ahead (x ∷ xs) rest all =
    let begins = BeginsWith-run (x ∷ xs) (10 ∷ rest) all (omega arith) refl in (
      begins.first ∙ ap (λ ts. (x ∷ xs) ∷ tokens ts) (before_first-cons_yes (λ b. b == 10) 10 rest refl),
      begins.same_lines ∙ after_first-cons_yes (λ b. b == 10) 10 rest refl,
    )

-- with a blank
pub so_far-blank : (max n : ℕ) (text : List ℕ) (byte : ℕ) (done : List Line) (toks : List (List ℕ))
    → is_token_byte byte ≡ false → is_blank byte ≡ true → IsSoFar max n text done toks
    → IsSoFar max n (text ++ byte ∷ []) done (toks ++ token_there (unfinished text))
so_far-blank max n text byte done toks dark blank so rest =
    let ahead = blank-ahead (unfinished text) rest byte (unfinished-bytes text) blank in
    let none : rest ≡ unfinished (text ++ byte ∷ []) ++ rest =
    ap (λ t. t ++ rest) (sym (unfinished-end text byte dark)) in
    ap (lines max) (append_assoc text (byte ∷ []) rest) ∙ so (byte ∷ rest)
    ∙ ap (λ ts. done ++ put_line max n (toks ++ ts)
    (lines_from max (n + 1) (pieces (after_first_line (unfinished text ++ byte ∷ rest))))) ahead.0
    ∙ ap (λ t. done ++ put_line max n (toks ++ (token_there (unfinished text) ++ first_tokens rest))
    (lines_from max (n + 1) (pieces t))) ahead.1
    ∙ ap (λ ts. done ++ put_line max n ts (lines_from max (n + 1) (pieces (after_first_line rest))))
    (sym (append_assoc toks (token_there (unfinished text)) (first_tokens rest)))
    ∙ ap (λ t. done ++ put_line max n (toks ++ token_there (unfinished text) ++ first_tokens t)
    (lines_from max (n + 1) (pieces (after_first_line t)))) none

-- with a line feed
pub so_far-feed : (max n : ℕ) (text : List ℕ) (done : List Line) (toks : List (List ℕ))
    → IsSoFar max n text done toks
    → IsSoFar max (n + 1) (text ++ 10 ∷ []) (done ++ put_line max n (toks ++ token_there (unfinished text))
    []) []
so_far-feed max n text done toks so rest =
    let ahead = feed-ahead (unfinished text) rest (unfinished-bytes text) in
    let none : rest ≡ unfinished (text ++ 10 ∷ []) ++ rest =
    ap (λ t. t ++ rest) (sym (unfinished-end text 10 refl)) in
    let whole : List (List ℕ) = toks ++ token_there (unfinished text) in
    ap (lines max) (append_assoc text (10 ∷ []) rest) ∙ so (10 ∷ rest)
    ∙ ap (λ ts. done ++ put_line max n (toks ++ ts)
    (lines_from max (n + 1) (pieces (after_first_line (unfinished text ++ 10 ∷ rest))))) ahead.0
    ∙ ap (λ t. done ++ put_line max n whole (lines_from max (n + 1) (pieces t))) ahead.1
    ∙ ap (λ ls. done ++ put_line max n whole ls) (lines_from-step max (n + 1) rest)
    ∙ ap (λ ls. done ++ ls)
    (put_line-append max n whole [] (put_line max (n + 1) (first_tokens rest)
    (lines_from max (n + 1 + 1) (pieces (after_first_line rest)))))
    ∙ sym (append_assoc done (put_line max n whole []) (put_line max (n + 1) (first_tokens rest)
    (lines_from max (n + 1 + 1) (pieces (after_first_line rest)))))
    ∙ ap (λ t. done ++ put_line max n whole [] ++ put_line max (n + 1) (first_tokens t)
    (lines_from max (n + 1 + 1) (pieces (after_first_line t)))) none

-- the lines of a text that ends here
pub so_far-end : (max n : ℕ) (text : List ℕ) (done : List Line) (toks : List (List ℕ))
    → IsSoFar max n text done toks
    → lines max text ≡ done ++ put_line max n (toks ++ token_there (unfinished text)) []
unfolding IsCut
so_far-end max n text done toks so =
    ap (lines max) (sym (append-nil text)) ∙ so [] ∙ ending (unfinished text) (unfinished-bytes text)
  where
    ending : (token : List ℕ) → list_all is_token_byte token ≡ true
        → done ++ put_line max n (toks ++ first_tokens (token ++ []))
        (lines_from max (n + 1) (pieces (after_first_line (token ++ []))))
        ≡ done ++ put_line max n (toks ++ token_there token) []
    ending [] all = refl
    ending (x ∷ xs) all =
        let begins = BeginsWith-run (x ∷ xs) [] all (omega arith) tt in
        ap (λ ts. done ++ put_line max n (toks ++ ts)
        (lines_from max (n + 1) (pieces (after_first_line (x ∷ xs ++ []))))) begins.first
        ∙ ap (λ t. done ++ put_line max n (toks ++ (x ∷ xs) ∷ []) (lines_from max (n + 1) (pieces t)))
        begins.same_lines
