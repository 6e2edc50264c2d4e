-- What a reading keeps, with one more token, one more byte and one more line.
use Rattle.std.proofs.Common.{◌≡◌, ℕ, ◌+◌, ◌-◌, ◌<◌, ◌≤◌, take, drop, get_or, length-drop, length-take-le, take-take, Bool, true, false, not, ◌==◌, if◌then◌else◌, List, [], ◌∷◌, ◌++◌, length, map, refl, ap, sym, ◌∙◌, subst, arith, append_assoc, length-append, Option, Some, None, is_some}
use Rattle.std.specs.List.{list_all, slice_range, All}
use Rattle.std.proofs.lemmas.List.Elements.{All-weaker}
use Rattle.std.proofs.lemmas.Bool.{eqb-true}
use Rattle.std.proofs.lemmas.Grind.{common_steps}
use Rattle.std.proofs.lemmas.List.{append-nil, length-map, take-append-drop, drop-take, take_more}
use Rattle.tdm_lines.specs.Tokens.{value, is_blank}
use Rattle.tdm_lines.specs.Lines.{Line, TokenFault, fault_of, put_line}
use Rattle.tdm_lines.specs.Scan.{is_token_byte}
use Rattle.tdm_lines.specs.Pending.{Scanned, StandsFor, unfinished}
use Rattle.tdm_lines.specs.SoFar.{IsSoFar, Keeps, Stands, ended_line, token_there}
use Rattle.tdm_lines.proofs.LineSteps.{numbers_of-within}
use Rattle.tdm_lines.proofs.SoFarLemmas.{so_far-start, so_far-run, so_far-blank, so_far-feed}

-- the line that ends is the one that the text has
ended_line-is : (n : ℕ) (fault : Option TokenFault) (numbers : List ℕ)
    → ended_line n fault numbers ≡ record {
      number = n;
      fault = fault;
      numbers = if is_some fault then [] else numbers;
    }
ended_line-is n None numbers = refl
ended_line-is n (Some f) numbers = refl

put_line-ended : (max n : ℕ) (toks : List (List ℕ)) → 0 < length toks
    → put_line max n toks [] ≡ ended_line n (fault_of max toks) (map value toks) ∷ []
put_line-ended max n [] some = absurd (omega arith)
put_line-ended max n (t ∷ ts) some =
    ap (λ (l : Line). l ∷ []) (sym (ended_line-is n (fault_of max (t ∷ ts)) (map value (t ∷ ts))))

-- no number of a line without fault is above the largest
clean-within : (max largest : ℕ) (toks : List (List ℕ)) → fault_of max toks ≡ None → max ≤ largest
    → All (λ n. n ≤ largest) (map value toks)
clean-within max largest toks clean most =
    let here : All (λ n. n ≤ max) (map value toks) =
    subst (λ (f : Option TokenFault). All (λ n. n ≤ max) (if is_some f then [] else map value toks)) clean
    (numbers_of-within max toks) in
    All-weaker (λ n. n ≤ max) (λ n. n ≤ largest) (λ n below. omega arith) (map value toks) here

no_tokens : (toks : List (List ℕ)) → 0 ≡ length toks → toks ≡ []
no_tokens [] e = refl
no_tokens (t ∷ ts) e = absurd (omega (arith, e))

dark-blank : (byte : ℕ) → is_token_byte byte ≡ false → (byte == 10) ≡ false → is_blank byte ≡ true
dark-blank byte dark feed = grind (arith, common_steps)

module _ {G : Type 0} {reads : G → List Line → Type 0} {holds : G → List ℕ → Type 0} where
  -- a line without a token is none
  pub keeps-no_line : (max line : ℕ) (fault : Option TokenFault) (count : ℕ) (state : G) (done : List Line)
      (toks : List (List ℕ)) → count ≡ 0 → Keeps reads holds max fault count state done toks
      → Keeps reads holds max fault count state (done ++ put_line max line toks []) []
  keeps-no_line max line fault count state done toks none k =
      let empty : toks ≡ [] = no_tokens toks (sym none ∙ k.count_is) in
      let same : done ≡ done ++ put_line max line toks [] =
      sym (ap (λ ts. done ++ put_line max line ts []) empty ∙ append-nil done) in
      subst (λ (ls : List Line). Keeps reads holds max fault count state ls []) same
      (subst (λ (ts : List (List ℕ)). Keeps reads holds max fault count state done ts) empty k)

  -- a line with a token
  pub keeps-line : (largest max line : ℕ) (fault : Option TokenFault) (count : ℕ) (state next : G)
      (done : List Line) (toks : List (List ℕ)) → 0 < count
      → ((before : List Line) (numbers : List ℕ) → reads state before → 0 < count
      → (fault ≡ None → (count ≡ length numbers) × holds state numbers
      × All (λ n. n ≤ largest) numbers) → reads next (before ++ ended_line line fault numbers ∷ []))
      → max ≤ largest → holds next [] → Keeps reads holds max fault count state done toks
      → Keeps reads holds max None 0 next (done ++ put_line max line toks []) []
  keeps-line largest max line fault count state next done toks some step most none k =
      let numbers : List ℕ = map value toks in
      let made : reads next (done ++ ended_line line fault numbers ∷ []) =
      step done numbers k.read some (λ clean. (
        k.count_is ∙ sym (length-map toks value),
        k.held clean,
        clean-within max largest toks (sym k.fault_is ∙ clean) most,
      )) in
      let there : ended_line line fault numbers ∷ [] ≡ put_line max line toks [] =
      ap (λ f. ended_line line f numbers ∷ []) k.fault_is
      ∙ sym (put_line-ended max line toks (omega (arith, k.count_is))) in
      record {
        count_is = refl;
        fault_is = refl;
        read = subst (λ (ls : List Line). reads next (done ++ ls)) there made;
        held = λ _. none;
      }

  -- before the first byte
  pub stands-start : (scan : Scanned) (state : G) → StandsFor scan [] → reads state [] → holds state []
      → Stands reads holds scan 0 None 0 state []
  stands-start scan state scanned read none = record {
    fed_is = refl;
    scanned = scanned;
    done = [];
    toks = [];
    so_far = subst (λ (n : ℕ). IsSoFar scan.max n [] [] []) (sym scanned.line) (so_far-start scan.max);
    keeps = record { count_is = refl; fault_is = refl; read = read; held = λ _. none };
  }

  -- with a run of bytes of a token
  pub stands-run : (old new : Scanned) (fed fed' : ℕ) (fault : Option TokenFault) (count : ℕ) (state : G)
      (text run : List ℕ) → list_all is_token_byte run ≡ true → fed' ≡ fed + length run → new.max ≡ old.max
      → new.line ≡ old.line
      → ((t : List ℕ) → StandsFor old t → StandsFor new (t ++ run))
      → Stands reads holds old fed fault count state text
      → Stands reads holds new fed' fault count state (text ++ run)
  stands-run old new fed fed' fault count state text run all more max line step s = record {
    fed_is = more ∙ ap (λ n. n + length run) s.fed_is ∙ sym (length-append text run);
    scanned = step text s.scanned;
    done = s.done;
    toks = s.toks;
    so_far = subst (λ (m : ℕ). IsSoFar m new.line (text ++ run) s.done s.toks) (sym max)
        (subst (λ (n : ℕ). IsSoFar old.max n (text ++ run) s.done s.toks) (sym line)
        (so_far-run old.max old.line text run s.done s.toks all s.so_far));
    keeps = subst (λ (m : ℕ). Keeps reads holds m fault count state s.done s.toks) (sym max) s.keeps;
  }

  -- with a blank
  pub stands-blank : (old new : Scanned) (byte fed fed' : ℕ) (fault fault' : Option TokenFault)
      (count count' : ℕ) (state state' : G) (text : List ℕ) → is_token_byte byte ≡ false
      → (byte == 10) ≡ false → fed' ≡ fed + 1 → new.max ≡ old.max → new.line ≡ old.line
      → ((t : List ℕ) → StandsFor old t → StandsFor new (t ++ byte ∷ []))
      → ((done : List Line) (toks : List (List ℕ)) → Keeps reads holds old.max fault count state done toks
      → Keeps reads holds old.max fault' count' state' done (toks ++ token_there (unfinished text)))
      → Stands reads holds old fed fault count state text
      → Stands reads holds new fed' fault' count' state' (text ++ byte ∷ [])
  stands-blank old new byte fed fed' fault fault' count count' state state' text dark feed more max line step
      keep s =
      let toks : List (List ℕ) = s.toks ++ token_there (unfinished text) in
      record {
        fed_is = more ∙ ap (λ n. n + 1) s.fed_is ∙ sym (length-append text (byte ∷ []));
        scanned = step text s.scanned;
        done = s.done;
        toks = toks;
        so_far = subst (λ (m : ℕ). IsSoFar m new.line (text ++ byte ∷ []) s.done toks) (sym max)
            (subst (λ (n : ℕ). IsSoFar old.max n (text ++ byte ∷ []) s.done toks) (sym line)
            (so_far-blank old.max old.line text byte s.done s.toks dark (dark-blank byte dark feed)
            s.so_far));
        keeps = subst (λ (m : ℕ). Keeps reads holds m fault' count' state' s.done toks) (sym max)
            (keep s.done s.toks s.keeps);
      }

  -- with a line feed
  pub stands-feed : (old new : Scanned) (byte fed fed' : ℕ) (fault fault' : Option TokenFault)
      (count count' : ℕ) (state state' : G) (text : List ℕ) → (byte == 10) ≡ true → fed' ≡ fed + 1
      → new.max ≡ old.max → new.line ≡ old.line + 1
      → ((t : List ℕ) → StandsFor old t → StandsFor new (t ++ byte ∷ []))
      → ((done : List Line) (toks : List (List ℕ)) → Keeps reads holds old.max fault count state done toks
      → Keeps reads holds old.max fault' count' state'
      (done ++ put_line old.max old.line (toks ++ token_there (unfinished text)) []) [])
      → Stands reads holds old fed fault count state text
      → Stands reads holds new fed' fault' count' state' (text ++ byte ∷ [])
  stands-feed old new byte fed fed' fault fault' count count' state state' text feed more max line step keep s
      =
      let done : List Line = s.done ++ put_line old.max old.line (s.toks ++ token_there (unfinished text))
      [] in
      let next : IsSoFar old.max (old.line + 1) (text ++ byte ∷ []) done [] =
      subst (λ (b : ℕ). IsSoFar old.max (old.line + 1) (text ++ b ∷ []) done [])
      (sym (eqb-true byte 10 feed)) (so_far-feed old.max old.line text s.done s.toks s.so_far) in
      record {
        fed_is = more ∙ ap (λ n. n + 1) s.fed_is ∙ sym (length-append text (byte ∷ []));
        scanned = step text s.scanned;
        done = done;
        toks = [];
        so_far = subst (λ (m : ℕ). IsSoFar m new.line (text ++ byte ∷ []) done []) (sym max)
            (subst (λ (n : ℕ). IsSoFar old.max n (text ++ byte ∷ []) done []) (sym line) next);
        keeps = subst (λ (m : ℕ). Keeps reads holds m fault' count' state' done []) (sym max)
            (keep s.done s.toks s.keeps);
      }

pub not-false : (b : Bool) → not b ≡ true → b ≡ false
not-false false h = refl
not-false true h = absurd (cc)

pub not-true : (b : Bool) → not b ≡ false → b ≡ true
not-true true h = refl
not-true false h = absurd (cc)

pub length-range_is : (bytes : List ℕ) (at end : ℕ) → end ≤ length bytes → length (slice_range bytes at end)
    ≡ end - at
length-range_is bytes at end le =
    length-take-le (end - at) (drop at bytes) (omega (arith, length-drop at bytes))

take-both : (i j : ℕ) (xs : List ℕ) → take (i + j) xs ≡ take i xs ++ take j (drop i xs)
take-both i j xs =
    sym (take-append-drop i (take (i + j) xs))
    ∙ ap (λ t. t ++ drop i (take (i + j) xs)) (take-take i (i + j) xs (omega arith))
    ∙ ap (λ t. take i xs ++ t) (drop-take i j xs)

-- a range goes on with what stands before it
pub take-range : (text bytes : List ℕ) (at end : ℕ) → at ≤ end
    → (text ++ take at bytes) ++ slice_range bytes at end ≡ text ++ take end bytes
take-range text bytes at end le =
    let sum : at + (end - at) ≡ end = omega arith in
    append_assoc text (take at bytes) (slice_range bytes at end)
    ∙ ap (λ t. text ++ t) (sym (take-both at (end - at) bytes) ∙ ap (λ n. take n bytes) sum)

pub take-range_more : (text bytes : List ℕ) (at end : ℕ) → at ≤ end → end < length bytes
    → ((text ++ take at bytes) ++ slice_range bytes at end) ++ get_or bytes end 0 ∷ []
    ≡ text ++ take (end + 1) bytes
take-range_more text bytes at end le lt =
    ap (λ t. t ++ get_or bytes end 0 ∷ []) (take-range text bytes at end le)
    ∙ append_assoc text (take end bytes) (get_or bytes end 0 ∷ [])
    ∙ ap (λ t. text ++ t) (sym (take_more bytes end 0 lt))
