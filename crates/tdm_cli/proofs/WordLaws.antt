-- The words of a command line by their places, and what they say of a command's names.
use Rattle.std.proofs.Common.{◌≡◌, ◌≢◌, ℕ, suc, ◌<◌, ◌≤◌, ◌^◌, length, List, [], ◌∷◌, slice_index_or, refl, sym, subst, ◌∙◌, arith, codes}
use Rattle.std.specs.Prelude.{Option, Some, None, IfNone, Result, Ok}
use Rattle.std.specs.Str.Parse.{ParsesUnsigned}
use Rattle.std.proofs.lemmas.Fmt.{parse-decimal, decimal_injective}
use Rattle.tdm_lines.specs.Digits.{digits}
use Rattle.tdm_cli.specs.Words.{NamesTwo, AskRounds, AskSizes, IsNumber, IsRoute, IsGen, IsDemo, IsNoRoute, IsNoGen, IsCommand, is_route, is_eval, is_check, is_gen, is_demo}

-- a word that is a number is read as the number
pub number-parsed : {E : Type 0} (word : List ℕ) (most number : ℕ) (result : Result ℕ E) → most < 2 ^ 32
    → ParsesUnsigned 32 10 word result → IsNumber most word number → result ≡ Ok number
number-parsed word most number result small parses is =
    parse-decimal 32 number word result (omega (arith, small, is.1)) (omega (arith, small, is.1)) is.0 parses

-- what follows where nothing was found
pub if-none : {A : Type 0} (found : Option A) (P Q : Type 0) → (P → Q) → IfNone found P → IfNone found Q
if-none (Some a) P Q then h = tt
if-none None P Q then h = then h

-- from this place on the list has these elements
abbrev pub HasFrom : {A : Type 0} → List A → ℕ → List A → Type 0
HasFrom xs k [] = Unit {0}
HasFrom xs k (y ∷ ys) = (y ≡ slice_index_or xs k y) × HasFrom xs (suc k) ys

has-behind : {A : Type 0} (x : A) (xs : List A) (k : ℕ) (ys : List A) → HasFrom (x ∷ xs) (suc k) ys
    → HasFrom xs k ys
has-behind x xs k [] has = tt
has-behind x xs k (y ∷ ys) has = (has.0, has-behind x xs (suc k) ys has.1)

-- a list is the elements at its places
pub its-elements : {A : Type 0} (xs ys : List A) → length xs ≡ length ys → HasFrom xs 0 ys → xs ≡ ys
its-elements [] [] same has = refl
its-elements (x ∷ xs) (y ∷ ys) same has =
    let first : y ≡ x = has.0 in
    let rest : xs ≡ ys = its-elements xs ys (omega (arith, same)) (has-behind x xs 0 ys has.1) in
    cc (first, rest)
its-elements _ _ same has = absurd (omega (arith, same))

-- four words that ask for no routing are no command
pub none-of-four : (a b c d : List ℕ) → IsNoRoute (a ∷ b ∷ c ∷ d ∷ []) → ¬ IsCommand (a ∷ b ∷ c ∷ d ∷ [])
none-of-four a b c d none (is_route board solution cert rounds is) = none board solution cert rounds is
none-of-four a b c d none (is_eval board solution is) = let e = is.words_are in cc
none-of-four a b c d none (is_check board cert is) = let e = is.words_are in cc
none-of-four a b c d none (is_gen fpgas nets groups board is) = let e = is.words_are in cc
none-of-four a b c d none (is_demo fpgas nets groups solution cert is) = let e = is.words_are in cc

-- five words that begin with `gen` and ask for no board are no command
pub none-of-gen : (a b c d : List ℕ) → IsNoGen (codes "gen" ∷ a ∷ b ∷ c ∷ d ∷ [])
    → ¬ IsCommand (codes "gen" ∷ a ∷ b ∷ c ∷ d ∷ [])
none-of-gen a b c d none (is_route board solution cert rounds is) = let e = is.words_are in cc
none-of-gen a b c d none (is_eval board solution is) = let e = is.words_are in cc
none-of-gen a b c d none (is_check board cert is) = let e = is.words_are in cc
none-of-gen a b c d none (is_gen fpgas nets groups board is) = none fpgas nets groups board is
none-of-gen a b c d none (is_demo fpgas nets groups solution cert is) = let e = is.words_are in cc

-- five words that begin otherwise and ask for no routing are no command
pub none-of-five : (verb a b c d : List ℕ) → verb ≢ codes "gen" → IsNoRoute (verb ∷ a ∷ b ∷ c ∷ d ∷ [])
    → ¬ IsCommand (verb ∷ a ∷ b ∷ c ∷ d ∷ [])
none-of-five verb a b c d other none (is_route board solution cert rounds is) =
    none board solution cert rounds is
none-of-five verb a b c d other none (is_eval board solution is) = let e = is.words_are in cc
none-of-five verb a b c d other none (is_check board cert is) = let e = is.words_are in cc
none-of-five verb a b c d other none (is_gen fpgas nets groups board is) = let e = is.words_are in
    absurd (other (cc e))
none-of-five verb a b c d other none (is_demo fpgas nets groups solution cert is) = let e = is.words_are in cc

module _ (verb : List ℕ) (words : List (List ℕ)) (first second third fourth : List ℕ) where
  -- the names are those of the words
  pub names-are : NamesTwo verb words first second → NamesTwo verb words third fourth → (first ≡ third)
      × (second ≡ fourth)
  names-are one other =
      let equal : words ≡ verb ∷ first ∷ second ∷ [] = one.words_are in
      let as_well : words ≡ verb ∷ third ∷ fourth ∷ [] = other.words_are in
      (cc, cc)

-- the words ask for one number of rounds
rounds-are : (further : List (List ℕ)) (a b : ℕ) → AskRounds further a → AskRounds further b → a ≡ b
rounds-are [] a b one other = one ∙ sym other
rounds-are (word ∷ []) a b one other = decimal_injective a b (omega (arith, one.1)) (omega (arith, other.1))
    (sym one.0 ∙ other.0)
rounds-are (word ∷ more ∷ words) a b one other = absurd one

module _ (words : List (List ℕ)) (board solution cert : List ℕ) (rounds : ℕ)
    (other_board other_solution other_cert : List ℕ) (other_rounds : ℕ) where
  -- the names and the rounds are those of the words
  pub route-is : IsRoute words board solution cert rounds
      → IsRoute words other_board other_solution other_cert other_rounds → (board ≡ other_board)
      × (solution ≡ other_solution) × (cert ≡ other_cert) × (rounds ≡ other_rounds)
  route-is one other =
      let equal : words ≡ codes "route" ∷ board ∷ solution ∷ cert ∷ one.further = one.words_are in
      let as_well : words ≡ codes "route" ∷ other_board ∷ other_solution ∷ other_cert ∷ other.further =
      other.words_are in
      let further : one.further ≡ other.further = cc (equal, as_well) in (
        cc (equal, as_well),
        cc (equal, as_well),
        cc (equal, as_well),
        rounds-are other.further rounds other_rounds
            (subst (λ ws. AskRounds ws rounds) further one.asks) other.asks,
      )

-- the numbers of a board are those of the words
number-is : (a b : ℕ) → a ≤ 2 ^ 20 → b ≤ 2 ^ 20 → digits a ≡ digits b → a ≡ b
number-is a b small few same = decimal_injective a b (omega (arith, small)) (omega (arith, few)) same

-- three words that are numbers are those of the board that they ask for
pub sizes-are : (fpga_word net_word group_word : List ℕ) (f n g f' n' g' : ℕ) → IsNumber 4096 fpga_word f
    → IsNumber (2 ^ 20) net_word n → IsNumber (2 ^ 20) group_word g
    → AskSizes fpga_word net_word group_word f' n' g' → (f ≡ f') × (n ≡ n') × (g ≡ g')
sizes-are fpga_word net_word group_word f n g f' n' g' fpgas nets groups asks =
    let s = asks.sizes in (
      number-is f f' (omega (arith, fpgas.1)) (omega (arith, s.few_fpgas)) (sym fpgas.0 ∙ asks.fpgas_are),
      number-is n n' nets.1 s.few_nets (sym nets.0 ∙ asks.nets_are),
      number-is g g' groups.1 s.few_groups (sym groups.0 ∙ asks.groups_are),
    )

module _ (words : List (List ℕ)) where
  pub gen-is : (f n g : ℕ) (board : List ℕ) (f' n' g' : ℕ) (board' : List ℕ) → IsGen words f n g board
      → IsGen words f' n' g' board' → (f ≡ f') × (n ≡ n') × (g ≡ g') × (board ≡ board')
  gen-is f n g board f' n' g' board' one other =
      let equal : words ≡ codes "gen" ∷ digits f ∷ digits n ∷ digits g ∷ board ∷ [] = one.words_are in
      let as_well : words ≡ codes "gen" ∷ digits f' ∷ digits n' ∷ digits g' ∷ board' ∷ [] = other.words_are in
      let s = one.sizes in
      let t = other.sizes in (
        number-is f f' (omega (arith, s.few_fpgas)) (omega (arith, t.few_fpgas)) (cc (equal, as_well)),
        number-is n n' s.few_nets t.few_nets (cc (equal, as_well)),
        number-is g g' s.few_groups t.few_groups (cc (equal, as_well)),
        cc (equal, as_well),
      )

  pub demo-is : (f n g : ℕ) (solution cert : List ℕ) (f' n' g' : ℕ) (solution' cert' : List ℕ)
      → IsDemo words f n g solution cert → IsDemo words f' n' g' solution' cert'
      → (f ≡ f') × (n ≡ n') × (g ≡ g') × (solution ≡ solution') × (cert ≡ cert')
  demo-is f n g solution cert f' n' g' solution' cert' one other =
      let equal : words ≡ codes "demo" ∷ digits f ∷ digits n ∷ digits g ∷ solution ∷ cert ∷ [] =
      one.words_are in
      let as_well : words ≡ codes "demo" ∷ digits f' ∷ digits n' ∷ digits g' ∷ solution' ∷ cert' ∷ [] =
      other.words_are in
      let s = one.sizes in
      let t = other.sizes in (
        number-is f f' (omega (arith, s.few_fpgas)) (omega (arith, t.few_fpgas)) (cc (equal, as_well)),
        number-is n n' s.few_nets t.few_nets (cc (equal, as_well)),
        number-is g g' s.few_groups t.few_groups (cc (equal, as_well)),
        cc (equal, as_well),
        cc (equal, as_well),
      )
