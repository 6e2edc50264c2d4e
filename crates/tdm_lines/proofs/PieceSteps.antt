-- What the loop over the tokens of a piece keeps true.
use Rattle.std.proofs.Common.{◌≡◌, ℕ, ◌<◌, ◌≤◌, Bool, true, false, nat_lt, List, [], ◌∷◌, ◌++◌, length, drop, get_or, ap, sym, ◌∙◌, arith, append_assoc, Result, Option}
use Rattle.std.proofs.lemmas.Grind.{common_steps}
use Rattle.tdm_lines.specs.Tokens.{is_blank}
use Rattle.tdm_lines.specs.Lines.{TokenFault}
use Rattle.tdm_lines.specs.Scan.{first_tokens, after_first_line, SameAhead, BeginsWith, IsReadOf, reading_of}

-- the tokens of the piece from `at` on, as far as `place`, with their numbers or their fault
pub record PieceSoFar (bytes : List ℕ) (at place max : ℕ) (has_token : Bool) (fault : Option TokenFault)
    (numbers : List ℕ) : Type 0 where
  pub from : at ≤ place
  pub within : place ≤ length bytes
  pub no_blank : place < length bytes → is_blank (get_or bytes place 0) ≡ false
  pub done : List (List ℕ)
  pub all : first_tokens (drop at bytes) ≡ done ++ first_tokens (drop place bytes)
  pub same_lines : after_first_line (drop at bytes) ≡ after_first_line (drop place bytes)
  pub some : has_token ≡ nat_lt 0 (length done)
  pub read : IsReadOf max done fault numbers

some-push : (done : List (List ℕ)) (token : List ℕ) → true ≡ nat_lt 0 (length (done ++ token ∷ []))
some-push done token = grind (arith, common_steps)

pub PieceSoFar-push : (bytes : List ℕ) (at place max : ℕ) (has_token : Bool) (fault : Option TokenFault)
    (numbers : List ℕ) → PieceSoFar bytes at place max has_token fault numbers
    → (token : List ℕ) (end next : ℕ) (reading : Result ℕ TokenFault) (worse : Option TokenFault)
    (more : List ℕ)
    → BeginsWith (drop place bytes) token (drop end bytes) → reading ≡ reading_of max token → place < end
    → end ≤ next → next ≤ length bytes
    → (next < length bytes → is_blank (get_or bytes next 0) ≡ false)
    → SameAhead (drop end bytes) (drop next bytes)
    → ((n : ℕ) (done : List (List ℕ)) (t : List ℕ) → IsReadOf n done fault numbers → reading ≡ reading_of n t
    → IsReadOf n (done ++ t ∷ []) worse more)
    → PieceSoFar bytes at next max true worse more
PieceSoFar-push bytes at place max has_token fault numbers h token end next reading worse more begins reads lt
    le within dark same added = record {
      from = omega (arith, h.from);
      within = within;
      no_blank = dark;
      done = h.done ++ token ∷ [];
      all = h.all ∙ ap (λ ts. h.done ++ ts) (begins.first ∙ ap (λ ts. token ∷ ts) same.same_tokens)
          ∙ sym (append_assoc h.done (token ∷ []) (first_tokens (drop next bytes)));
      same_lines = h.same_lines ∙ begins.same_lines ∙ same.same_lines;
      some = some-push h.done token;
      read = added max h.done token h.read reads;
    }
