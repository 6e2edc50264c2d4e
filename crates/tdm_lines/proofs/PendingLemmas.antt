-- A text that has come so far, with one more byte.
use Rattle.std.proofs.Common.{◌≡◌, ℕ, ◌+◌, ◌-◌, ◌<◌, ◌≤◌, Bool, true, false, ◌&&◌, ◌==◌, cond, List, [], ◌∷◌, ◌++◌, length, take, drop, get_or, refl, ap, sym, ◌∙◌, arith, append_assoc, add-zero, Option, None, Some, Result, Ok, Err}
use Rattle.std.specs.List.{list_all, slice_range}
use Rattle.std.proofs.lemmas.Grind.{common_steps}
use Rattle.std.proofs.lemmas.List.{append-nil}
use Rattle.std.proofs.lemmas.List.Folds.{list_all-append}
use Rattle.tdm_lines.specs.Lines.{TokenFault, BadNumber, NumberTooLarge, line_after}
use Rattle.tdm_lines.specs.Scan.{is_token_byte, reading_of}
use Rattle.tdm_lines.specs.Pending.{unfinished, end_of, ending, reading_before, StandsFor, Scanned}
use Rattle.tdm_lines.specs.declared.pushed.TokenEnd.{TokenEnd}
use Rattle.tdm_lines.proofs.TextLemmas.{both}
use Rattle.tdm_lines.proofs.ScanSteps.{slice_range-push, length-range}

unfinished-cut : (all one : Bool) (xs before : List ℕ) (byte : ℕ)
    → cond (all && one) (xs ++ byte ∷ []) (cond one (before ++ byte ∷ []) [])
    ≡ cond one (cond all xs before ++ byte ∷ []) []
unfinished-cut true true xs before byte = refl
unfinished-cut true false xs before byte = refl
unfinished-cut false true xs before byte = refl
unfinished-cut false false xs before byte = refl

-- a byte of a token goes on with what is unfinished, and any other ends it
pub unfinished-push : (text : List ℕ) (byte : ℕ) → unfinished (text ++ byte ∷ [])
    ≡ cond (is_token_byte byte) (unfinished text ++ byte ∷ []) []
unfinished-push [] byte = grind (arith, common_steps)
unfinished-push (x ∷ xs) byte =
    ap (λ b. cond b (x ∷ xs ++ byte ∷ []) (unfinished (xs ++ byte ∷ [])))
    (list_all-append is_token_byte (x ∷ xs) (byte ∷ [])
    ∙ one (list_all is_token_byte (x ∷ xs)) (is_token_byte byte))
    ∙ ap (λ more. cond (list_all is_token_byte (x ∷ xs) && is_token_byte byte) (x ∷ xs ++ byte ∷ []) more)
    (unfinished-push xs byte)
    ∙ unfinished-cut (list_all is_token_byte (x ∷ xs)) (is_token_byte byte) (x ∷ xs) (unfinished xs) byte
  where
    one : (a b : Bool) → (a && (b && true)) ≡ (a && b)
    one true true = refl
    one true false = refl
    one false b = refl

pub unfinished-token : (text : List ℕ) (byte : ℕ) → is_token_byte byte ≡ true → unfinished (text ++ byte ∷ [])
    ≡ unfinished text ++ byte ∷ []
unfinished-token text byte there = unfinished-push text byte
    ∙ ap (λ b. cond b (unfinished text ++ byte ∷ []) []) there

pub unfinished-end : (text : List ℕ) (byte : ℕ) → is_token_byte byte ≡ false → unfinished (text ++ byte ∷ [])
    ≡ []
unfinished-end text byte there = unfinished-push text byte
    ∙ ap (λ b. cond b (unfinished text ++ byte ∷ []) []) there

-- a line feed makes one line more, and no other byte does
pub line_after-push : (text : List ℕ) (byte : ℕ) → line_after (text ++ byte ∷ []) ≡ line_after text
    + cond (byte == 10) 1 0
line_after-push [] byte = grind (arith, common_steps)
line_after-push (x ∷ xs) byte = grind (arith, common_steps, line_after-push xs byte)

line_after-feed : (text : List ℕ) (byte : ℕ) → (byte == 10) ≡ true → line_after (text ++ byte ∷ [])
    ≡ line_after text + 1
line_after-feed text byte feed = line_after-push text byte ∙ ap (λ b. line_after text + cond b 1 0) feed

line_after-same : (text : List ℕ) (byte : ℕ) → (byte == 10) ≡ false → line_after (text ++ byte ∷ [])
    ≡ line_after text
line_after-same text byte feed = line_after-push text byte ∙ ap (λ b. line_after text + cond b 1 0) feed
    ∙ add-zero (line_after text)

no_feed : (byte : ℕ) → is_token_byte byte ≡ true → (byte == 10) ≡ false
no_feed byte there = grind (arith, common_steps)

-- a run of bytes of a token
pub unfinished-run : (text run : List ℕ) → list_all is_token_byte run ≡ true
    → unfinished (text ++ run) ≡ unfinished text ++ run
unfinished-run text [] all = ap unfinished (append-nil text) ∙ sym (append-nil (unfinished text))
unfinished-run text (x ∷ xs) all =
    let split = both _ _ all in
    ap unfinished (sym (append_assoc text (x ∷ []) xs)) ∙ unfinished-run (text ++ x ∷ []) xs split.1
    ∙ ap (λ t. t ++ xs) (unfinished-token text x split.0) ∙ append_assoc (unfinished text) (x ∷ []) xs

line_after-run : (text run : List ℕ) → list_all is_token_byte run ≡ true
    → line_after (text ++ run) ≡ line_after text
line_after-run text [] all = ap line_after (append-nil text)
line_after-run text (x ∷ xs) all =
    let split = both _ _ all in
    ap line_after (sym (append_assoc text (x ∷ []) xs)) ∙ line_after-run (text ++ x ∷ []) xs split.1
    ∙ line_after-same text x (no_feed x split.0)

-- what is pending was read so
pub reading_before-pending : (max : ℕ) (pending : Option TokenEnd) (token : List ℕ)
    → pending ≡ ending max token → reading_before pending ≡ reading_of max token
reading_before-pending max pending [] is = ap reading_before is ∙ grind (arith, common_steps)
reading_before-pending max pending (x ∷ xs) is = ap reading_before is ∙ back (reading_of max (x ∷ xs))
  where
    back : (reading : Result ℕ TokenFault) → reading_before (Some (end_of reading)) ≡ reading
    back (Ok n) = refl
    back (Err BadNumber) = refl
    back (Err NumberTooLarge) = refl

-- the bytes from `at` to `end` are a token's, read from what was pending on
pub record RunSoFar (bytes : List ℕ) (at end max : ℕ) (pending : Option TokenEnd)
    (reading : Result ℕ TokenFault) : Type 0 where
  pub from : at ≤ end
  pub within : end ≤ length bytes
  pub token_bytes : list_all is_token_byte (slice_range bytes at end) ≡ true
  pub read : (token : List ℕ) → pending ≡ ending max token
      → reading ≡ reading_of max (token ++ slice_range bytes at end)

slice_range-none : (bytes : List ℕ) (at : ℕ) → slice_range bytes at at ≡ []
slice_range-none bytes at = let none : at - at ≡ 0 = omega arith in ap (λ n. take n (drop at bytes)) none

pub RunSoFar-start : (bytes : List ℕ) (at max : ℕ) (pending : Option TokenEnd) (reading : Result ℕ TokenFault)
    → at ≤ length bytes → reading ≡ reading_before pending → RunSoFar bytes at at max pending reading
RunSoFar-start bytes at max pending reading le is = record {
  from = omega arith;
  within = le;
  token_bytes = ap (list_all is_token_byte) (slice_range-none bytes at);
  read = λ token pends. is ∙ reading_before-pending max pending token pends
      ∙ sym (ap (reading_of max) (ap (λ r. token ++ r) (slice_range-none bytes at) ∙ append-nil token));
}

pub RunSoFar-push : (bytes : List ℕ) (at end max : ℕ) (pending : Option TokenEnd)
    (reading next : Result ℕ TokenFault) → RunSoFar bytes at end max pending reading
    → end < length bytes → is_token_byte (get_or bytes end 0) ≡ true
    → ((token : List ℕ) → reading ≡ reading_of max token
    → next ≡ reading_of max (token ++ get_or bytes end 0 ∷ []))
    → RunSoFar bytes at (end + 1) max pending next
RunSoFar-push bytes at end max pending reading next h lt byte step =
    let range = slice_range-push bytes at end h.from lt in
    record {
      from = omega (arith, h.from);
      within = omega arith;
      token_bytes = ap (list_all is_token_byte) range
          ∙ list_all-append is_token_byte (slice_range bytes at end) (get_or bytes end 0 ∷ [])
          ∙ rw (h.token_bytes, byte);
      read = λ token pends. step (token ++ slice_range bytes at end) (h.read token pends)
          ∙ sym (ap (reading_of max) (ap (λ r. token ++ r) range
          ∙ sym (append_assoc token (slice_range bytes at end) (get_or bytes end 0 ∷ []))));
    }

ending-some : (max : ℕ) (token run : List ℕ) → 0 < length run
    → ending max (token ++ run) ≡ Some (end_of (reading_of max (token ++ run)))
ending-some max [] [] some = absurd (omega arith)
ending-some max [] (x ∷ xs) some = refl
ending-some max (t ∷ ts) run some = refl

-- what is pending after the run
pub RunSoFar-pending : (bytes : List ℕ) (at end max : ℕ) (pending : Option TokenEnd)
    (reading : Result ℕ TokenFault) → RunSoFar bytes at end max pending reading → at < end
    → (token : List ℕ) → pending ≡ ending max token
    → Some (end_of reading) ≡ ending max (token ++ slice_range bytes at end)
RunSoFar-pending bytes at end max pending reading h some = λ token pends.
    let long : 0 < length (slice_range bytes at end) = length-range bytes at end some h.within in
    ap (λ r. Some (end_of r)) (h.read token pends)
    ∙ sym (ending-some max token (slice_range bytes at end) long)

pub RunSoFar-none : (bytes : List ℕ) (at end max : ℕ) (pending : Option TokenEnd)
    (reading : Result ℕ TokenFault) → RunSoFar bytes at end max pending reading → end ≤ at
    → (token : List ℕ) → pending ≡ ending max token → pending ≡ ending max (token ++ slice_range bytes at end)
RunSoFar-none bytes at end max pending reading h none = λ token pends.
    let whole : end ≡ at = omega (arith, h.from) in
    let nothing : slice_range bytes at end ≡ [] = ap (slice_range bytes at) whole
    ∙ slice_range-none bytes at in
    pends ∙ sym (ap (ending max) (ap (λ r. token ++ r) nothing ∙ append-nil token))

module _ (old new : Scanned) (byte : ℕ) (text : List ℕ) (stands : StandsFor old text) (same : new.max
    ≡ old.max) where
  -- a byte of a token
  pub StandsFor-token : is_token_byte byte ≡ true → new.line ≡ old.line
      → ((token : List ℕ) → old.pending ≡ ending old.max token
      → new.pending ≡ ending old.max (token ++ byte ∷ [])) → StandsFor new (text ++ byte ∷ [])
  StandsFor-token there line step = record {
    line = line ∙ stands.line ∙ sym (line_after-same text byte (no_feed byte there));
    pending = step (unfinished text) stands.pending
        ∙ sym (ap (ending old.max) (unfinished-token text byte there))
        ∙ sym (ap (λ m. ending m (unfinished (text ++ byte ∷ []))) same);
  }

  -- a blank
  pub StandsFor-blank : is_token_byte byte ≡ false → (byte == 10) ≡ false → new.line ≡ old.line
      → new.pending ≡ None → StandsFor new (text ++ byte ∷ [])
  StandsFor-blank there feed line none = record {
    line = line ∙ stands.line ∙ sym (line_after-same text byte feed);
    pending = none ∙ sym (ap (ending new.max) (unfinished-end text byte there));
  }

  -- a line feed
  pub StandsFor-feed : is_token_byte byte ≡ false → (byte == 10) ≡ true → new.line ≡ old.line + 1
      → new.pending ≡ None → StandsFor new (text ++ byte ∷ [])
  StandsFor-feed there feed line none = record {
    line = line ∙ ap (λ n. n + 1) stands.line ∙ sym (line_after-feed text byte feed);
    pending = none ∙ sym (ap (ending new.max) (unfinished-end text byte there));
  }

  -- a run of bytes of a token
  pub StandsFor-run : (run : List ℕ) → list_all is_token_byte run ≡ true → new.line ≡ old.line
      → ((token : List ℕ) → old.pending ≡ ending old.max token → new.pending ≡ ending old.max (token ++ run))
      → StandsFor new (text ++ run)
  StandsFor-run run all line step = record {
    line = line ∙ stands.line ∙ sym (line_after-run text run all);
    pending = step (unfinished text) stands.pending ∙ sym (ap (ending old.max) (unfinished-run text run all))
        ∙ sym (ap (λ m. ending m (unfinished (text ++ run))) same);
  }
