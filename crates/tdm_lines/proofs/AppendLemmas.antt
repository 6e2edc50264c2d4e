-- The lines of a text that goes on after a line feed.
use Rattle.std.proofs.Common.{◌≡◌, ℕ, ◌+◌, ◌<◌, Bool, true, false, ◌==◌, cond, List, [], ◌∷◌, ◌++◌, length, refl, ap, ◌∙◌, arith}
use Rattle.std.specs.List.{slice_split, onto_first}
use Rattle.std.proofs.lemmas.List.Splits.{length-slice_split}
use Rattle.tdm_lines.specs.Tokens.{tokens}
use Rattle.tdm_lines.specs.Lines.{Line, pieces, lines, lines_from, put_line, line_after}

module _ {X : Type 0} (p : X → Bool) where
  onto_first-append : (x : X) (ps qs : List (List X)) → 0 < length ps
      → onto_first x (ps ++ qs) ≡ onto_first x ps ++ qs
  onto_first-append x [] qs h = absurd (omega arith)
  onto_first-append x (part ∷ ps) qs h = refl

  cut-append : (b : Bool) (x : X) (ps qs : List (List X)) → 0 < length ps
      → cond b ([] ∷ (ps ++ qs)) (onto_first x (ps ++ qs)) ≡ cond b ([] ∷ ps) (onto_first x ps) ++ qs
  cut-append true x ps qs h = refl
  cut-append false x ps qs h = onto_first-append x ps qs h

  -- a cut between two lists cuts each as before
  pub slice_split-append : (xs : List X) (y : X) (ys : List X) → p y ≡ true → slice_split p (xs ++ y ∷ ys)
      ≡ slice_split p xs ++ slice_split p ys
  slice_split-append [] y ys e = ap (λ b. cond b ([] ∷ slice_split p ys) (onto_first y (slice_split p ys))) e
  slice_split-append (x ∷ xs) y ys e =
      ap (λ ps. cond (p x) ([] ∷ ps) (onto_first x ps)) (slice_split-append xs y ys e)
      ∙ cut-append (p x) x (slice_split p xs) (slice_split p ys) (omega (arith, length-slice_split p xs))

pub put_line-append : (max n : ℕ) (toks : List (List ℕ)) (ls more : List Line)
    → put_line max n toks (ls ++ more) ≡ put_line max n toks ls ++ more
put_line-append max n [] ls more = refl
put_line-append max n (t ∷ ts) ls more = refl

-- the lines of pieces and of the pieces after them
pub lines_from-append : (max n : ℕ) (ps qs : List (List ℕ))
    → lines_from max n (ps ++ qs) ≡ lines_from max n ps ++ lines_from max (n + length ps) qs
lines_from-append max n [] qs = let same : n ≡ n + 0 = omega arith in ap (λ k. lines_from max k qs) same
lines_from-append max n (piece ∷ ps) qs =
    let same : n + 1 + length ps ≡ n + length (piece ∷ ps) = omega arith in
    ap (put_line max n (tokens piece)) (lines_from-append max (n + 1) ps qs
    ∙ ap (λ k. lines_from max (n + 1) ps ++ lines_from max k qs) same)
    ∙ put_line-append max n (tokens piece) (lines_from max (n + 1) ps)
    (lines_from max (n + length (piece ∷ ps)) qs)

-- after a line feed the lines go on from the next number
pub lines-append : (max : ℕ) (text more : List ℕ) → lines max (text ++ 10 ∷ more) ≡ lines max text
    ++ lines_from max (line_after text + 1) (pieces more)
lines-append max text more =
    let next : 1 + length (pieces text) ≡ line_after text + 1 =
    omega (arith, length-slice_split (λ b. b == 10) text) in
    ap (lines_from max 1) (slice_split-append (λ b. b == 10) text 10 more refl)
    ∙ lines_from-append max 1 (pieces text) (pieces more)
    ∙ ap (λ k. lines max text ++ lines_from max k (pieces more)) next
