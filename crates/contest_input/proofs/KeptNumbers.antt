-- What is kept of the numbers of a line, and that the line is judged by it.
use Rattle.std.proofs.Common.{◌≡◌, ◌≢◌, ℕ, suc, ◌+◌, ◌-◌, ◌<◌, ◌≤◌, Bool, true, false, cond, ◌||◌, List, [], ◌∷◌, ◌++◌, length, get_or, set, Option, None, Some, refl, sym, ap, ◌∙◌, subst, ⊎_elim, arith, length-append}
use Rattle.std.specs.Prelude.{nat_le}
use Rattle.std.specs.List.{list_any}
use Rattle.std.proofs.lemmas.Bool.{lt-ltb, le-leb, ne_eqb, leb-true, leb-false, cases_lt}
use Rattle.std.proofs.lemmas.List.{length-set}
use Rattle.std.proofs.lemmas.List.Folds.{list_any-append, list_any_at}
use Rattle.tdm_lines.specs.declared.line.TokenFault.{TokenFault}
use Rattle.tdm_lines.specs.SoFar.{ended_line}
use Rattle.tdm_lines.specs.Written.{plain_line}
use Rattle.tdm_problem.specs.Limits.{most_listed_fpgas, most_listed_nets}
use Rattle.contest_input.specs.Kinds.{BoardRefusal}
use Rattle.contest_input.specs.declared.header.Sizes.{Sizes}
use Rattle.contest_input.specs.declared.kind.BoardKind.{BoardKind}
use Rattle.contest_input.specs.declared.kind.BoardKind.TheVariants.{WrongCount, UnknownFpga, UnknownNet, TotalLimit}
use Rattle.contest_input.specs.declared.roles.Role.{Role}
use Rattle.contest_input.specs.declared.roles.Role.TheVariants as role
use Rattle.contest_input.specs.Faults.{header_fault, wire_fault, net_fault, group_fault}
use Rattle.contest_input.specs.Roles.{IsKeptOf, line_kind, room_of}

-- ---- one number more

pub kept-whole : (room : ℕ) (kept numbers : List ℕ) → kept ≡ numbers → IsKeptOf room kept numbers
kept-whole room kept numbers is = record {
  short = λ _. is;
  long = λ le. omega (arith, le, ap length is);
  same = λ limit. ap (list_any (nat_le limit)) is;
}

-- there was room for it
pub kept-more : (room n : ℕ) (kept kept' numbers : List ℕ) → length kept < room → kept' ≡ kept ++ n ∷ []
    → IsKeptOf room kept numbers → IsKeptOf room kept' (numbers ++ n ∷ [])
kept-more room n kept kept' numbers free is k =
    let few : length numbers < room =
    ⊎_elim (λ (lt : length numbers < room). lt)
    (λ (ge : room ≤ length numbers). absurd (omega (arith, free, k.long ge)))
    (cases_lt (length numbers) room) in
    kept-whole room kept' (numbers ++ n ∷ []) (is ∙ ap (λ ns. ns ++ n ∷ []) (k.short few))

or-none : (b : Bool) → (b || false) ≡ b
or-none true = refl
or-none false = refl

-- there was none
kept-full : (room n : ℕ) (kept kept' numbers : List ℕ) → room ≤ length kept → length kept' ≡ length kept
    → ((limit : ℕ) → list_any (nat_le limit) kept' ≡ (list_any (nat_le limit) kept || nat_le limit n))
    → IsKeptOf room kept numbers → IsKeptOf room kept' (numbers ++ n ∷ [])
kept-full room n kept kept' numbers full size any k =
    let many : room ≤ length numbers =
    ⊎_elim (λ (lt : length numbers < room). absurd (omega (arith, lt, full, ap length (k.short lt))))
    (λ (ge : room ≤ length numbers). ge) (cases_lt (length numbers) room) in
    record {
      short = λ few. absurd (omega (arith, few, many, length-append numbers (n ∷ [])));
      long = λ _. omega (arith, full, size);
      same = λ limit. any limit ∙ ap (λ b. b || nat_le limit n) (k.same limit)
          ∙ sym (list_any-append (nat_le limit) numbers (n ∷ [])
          ∙ ap (λ b. list_any (nat_le limit) numbers || b) (or-none (nat_le limit n)));
    }

larger : (limit x n : ℕ) → x < n → (nat_le limit n || false) ≡ ((nat_le limit x || false) || nat_le limit n)
larger limit x n less = by (nat_le limit x) (nat_le limit n) refl refl
  where
    by : (a b : Bool) → nat_le limit x ≡ a → nat_le limit n ≡ b → (b || false) ≡ ((a || false) || b)
    by true true is_a is_b = refl
    by false true is_a is_b = refl
    by false false is_a is_b = refl
    by true false is_a is_b = absurd (omega (arith, leb-true limit x is_a, leb-false limit n is_b, less))

any-last : (limit n : ℕ) (kept : List ℕ) → 0 < length kept → get_or kept (length kept - 1) 0 < n
    → list_any (nat_le limit) (set kept (length kept - 1) n)
    ≡ (list_any (nat_le limit) kept || nat_le limit n)
any-last limit n [] some less = absurd (omega arith)
any-last limit n (x ∷ []) some less = larger limit x n less
any-last limit n (x ∷ y ∷ ys) some less =
    let next : length (x ∷ y ∷ ys) - 1 ≡ suc (length (y ∷ ys) - 1) = omega arith in
    ap (λ i. list_any (nat_le limit) (set (x ∷ y ∷ ys) i n)) next
    ∙ ap (λ b. nat_le limit x || b) (any-last limit n (y ∷ ys) (omega arith)
    (subst (λ i. get_or (x ∷ y ∷ ys) i 0 < n) next less))
    ∙ or-assoc (nat_le limit x) (list_any (nat_le limit) (y ∷ ys)) (nat_le limit n)
  where
    or-assoc : (a b c : Bool) → (a || (b || c)) ≡ ((a || b) || c)
    or-assoc true b c = refl
    or-assoc false b c = refl

-- it takes the place of the last that is kept
pub kept-larger : (room n : ℕ) (kept numbers : List ℕ) → 0 < room → room ≤ length kept
    → get_or kept (length kept - 1) 0 < n → IsKeptOf room kept numbers
    → IsKeptOf room (set kept (length kept - 1) n) (numbers ++ n ∷ [])
kept-larger room n kept numbers some full less k =
    kept-full room n kept (set kept (length kept - 1) n) numbers full (length-set kept (length kept - 1) n)
    (λ limit. any-last limit n kept (omega arith) less) k

-- the last that is kept is no smaller
pub kept-smaller : (room n : ℕ) (kept numbers : List ℕ) → 0 < room → room ≤ length kept
    → n ≤ get_or kept (length kept - 1) 0 → IsKeptOf room kept numbers
    → IsKeptOf room kept (numbers ++ n ∷ [])
kept-smaller room n kept numbers some full less k =
    kept-full room n kept kept numbers full refl (λ limit. by limit (nat_le limit n) refl) k
  where
    by : (limit : ℕ) (b : Bool) → nat_le limit n ≡ b → list_any (nat_le limit) kept
        ≡ (list_any (nat_le limit) kept || b)
    by limit false is_b = sym (or-none (list_any (nat_le limit) kept))
    by limit true is_b =
        let last : ℕ = get_or kept (length kept - 1) 0 in
        let there : list_any (nat_le limit) kept ≡ true = list_any_at (nat_le limit) kept (length kept - 1) 0
        (omega arith) (le-leb limit last (omega (arith, leb-true limit n is_b, less))) in
        there ∙ sym (ap (λ b. b || true) there)

-- ---- the line is judged by what is kept

long-header : (ns : List ℕ) → 5 ≤ length ns → header_fault ns ≡ Some WrongCount
long-header ns many = let no : length ns ≢ 4 = λ e. omega (arith, e, many) in
    rw (ne_eqb (length ns) 4 no) refl

long-wire : (fpgas : ℕ) (ns : List ℕ) → 3 ≤ length ns → wire_fault fpgas ns ≡ Some WrongCount
long-wire fpgas ns many = let no : length ns ≢ 2 = λ e. omega (arith, e, many) in
    rw (ne_eqb (length ns) 2 no) refl

long-net : (fpgas listed : ℕ) (ns : List ℕ) → most_listed_fpgas + 1 ≤ length ns
    → net_fault fpgas (listed + length ns) ns ≡ cond (list_any (nat_le fpgas) ns) (Some UnknownFpga)
    (Some TotalLimit)
long-net fpgas listed ns many = rw (lt-ltb most_listed_fpgas (listed + length ns) (omega (arith, many))) refl

long-group : (nets listed : ℕ) (ns : List ℕ) → most_listed_nets + 1 ≤ length ns
    → group_fault nets (listed + length ns) ns ≡ cond (list_any (nat_le nets) ns) (Some UnknownNet)
    (Some TotalLimit)
long-group nets listed ns many = rw (lt-ltb most_listed_nets (listed + length ns) (omega (arith, many))) refl

some-either : (b : Bool) (x y : BoardKind) → cond b (Some x) (Some y) ≡ None → ⊥
some-either true x y is = cc
some-either false x y is = cc

module _ (sizes : Sizes) (listed n : ℕ) where
  long-same : (r : Role) (kept numbers : List ℕ) → room_of r ≤ length numbers
      → IsKeptOf (room_of r) kept numbers → line_kind r sizes listed (plain_line n kept)
      ≡ line_kind r sizes listed (plain_line n numbers)
  long-same role.Header kept numbers many k = long-header kept (k.long many) ∙ sym (long-header numbers many)
  long-same role.Wire kept numbers many k = long-wire sizes.fpgas kept (k.long many)
      ∙ sym (long-wire sizes.fpgas numbers many)
  long-same role.Net kept numbers many k =
      long-net sizes.fpgas listed kept (k.long many) ∙ ap (λ b. cond b (Some UnknownFpga) (Some TotalLimit))
      (k.same sizes.fpgas) ∙ sym (long-net sizes.fpgas listed numbers many)
  long-same role.Group kept numbers many k =
      long-group sizes.nets listed kept (k.long many) ∙ ap (λ b. cond b (Some UnknownNet) (Some TotalLimit))
      (k.same sizes.nets) ∙ sym (long-group sizes.nets listed numbers many)
  long-same role.End kept numbers many k = refl
  long-same (role.Refused why) kept numbers many k = refl

  pub judged : (r : Role) (fault : Option TokenFault) (kept numbers : List ℕ)
      → (fault ≡ None → IsKeptOf (room_of r) kept numbers)
      → line_kind r sizes listed (ended_line n fault kept)
      ≡ line_kind r sizes listed (ended_line n fault numbers)
  judged r None kept numbers known =
      let k = known refl in
      ⊎_elim (λ (few : length numbers < room_of r). ap (λ ns. line_kind r sizes listed (plain_line n ns))
      (k.short few)) (λ (many : room_of r ≤ length numbers). long-same r kept numbers many k)
      (cases_lt (length numbers) (room_of r))
  judged r (Some f) kept numbers known = refl

  -- a line with more numbers than are kept is no further fault of a refused text alone
  pub long-refused : (r : Role) (numbers : List ℕ) → room_of r ≤ length numbers
      → line_kind r sizes listed (plain_line n numbers) ≡ None → (why : BoardRefusal) × (r ≡ role.Refused why)
  long-refused role.Header numbers many is = let no : Some WrongCount ≡ None = sym (long-header numbers many)
      ∙ is in absurd (cc)
  long-refused role.Wire numbers many is = let no : Some WrongCount ≡ None =
      sym (long-wire sizes.fpgas numbers many) ∙ is in absurd (cc)
  long-refused role.Net numbers many is =
      absurd (some-either _ UnknownFpga TotalLimit (sym (long-net sizes.fpgas listed numbers many) ∙ is))
  long-refused role.Group numbers many is =
      absurd (some-either _ UnknownNet TotalLimit (sym (long-group sizes.nets listed numbers many) ∙ is))
  long-refused role.End numbers many is = absurd (cc)
  long-refused (role.Refused why) numbers many is = (why, refl)
