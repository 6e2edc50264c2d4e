-- What passes of turns come to.
use Rattle.std.proofs.Common.{◌≡◌, ◌≢◌, ℕ, zero, suc, ◌+◌, ◌-◌, ◌<◌, ◌≤◌, Bool, true, false, List, [], ◌∷◌, ◌++◌, length, get_or, take, refl, sym, ap, ◌∙◌, subst, ⊎_elim, arith, add-one, get_or-set_other}
use Rattle.std.specs.Prelude.{Contains, ◌||◌}
use Rattle.std.proofs.lemmas.List.{take_more}
use Rattle.std.proofs.lemmas.List.Elements.{Contains-get_or, Contains-push_cases}
use Rattle.tdm_problem.specs.Board.{Board}
use Rattle.tdm_problem.specs.Loads.{load_cost}
use Rattle.tdm_problem.specs.Trees.{tree_of}
use Rattle.ripup_reroute.specs.Turns.{IsShortFor, IsTurn, IsPass, ArePasses, AreFallingPasses, ComesToRest}
use Rattle.ripup_reroute.specs.Rerouting.{AreMinimalTrees, AreRerouted, IsSettledFor, IsSettled}
use Rattle.ripup_reroute.proofs.TurnLaws.{IsTurn-stay}

module _ (board : Board) (numbers : List ℕ) where
  -- ---- passes, and one more

  -- a pass, and one more turn
  IsPass-more : (picks : List ℕ) (n : ℕ) (trees now next : List (List ℕ))
      → IsPass board numbers picks trees now → IsTurn board numbers n now next
      → IsPass board numbers (picks ++ n ∷ []) trees next
  IsPass-more [] n trees now next pass turn =
      (next, subst (λ (ts : List (List ℕ)). IsTurn board numbers n ts next) (sym pass) turn, refl)
  IsPass-more (m ∷ picks) n trees now next pass turn =
      (pass.0, pass.1, IsPass-more picks n pass.0 now next pass.2 turn)

  falling-suc : (picks : List ℕ) (k : ℕ) (trees now next : List (List ℕ))
      → AreFallingPasses board numbers picks k trees now → IsPass board numbers picks now next
      → load_cost board next numbers < load_cost board now numbers
      → AreFallingPasses board numbers picks (suc k) trees next
  falling-suc picks zero trees now next same pass falls = (
    next,
    subst (λ (ts : List (List ℕ)). IsPass board numbers picks ts next) (sym same) pass,
    subst (λ (ts : List (List ℕ)). load_cost board next numbers < load_cost board ts numbers)
        (sym same) falls,
    refl,
  )
  falling-suc picks (suc k) trees now next falling pass falls =
      (falling.0, falling.1, falling.2, falling-suc picks k falling.0 now next falling.3 pass falls)

  -- falling passes, and one more
  pub falling-more : (picks : List ℕ) (k : ℕ) (trees now next : List (List ℕ))
      → AreFallingPasses board numbers picks k trees now → IsPass board numbers picks now next
      → load_cost board next numbers < load_cost board now numbers
      → AreFallingPasses board numbers picks (k + 1) trees next
  falling-more picks k trees now next falling pass falls =
      subst (λ (m : ℕ). AreFallingPasses board numbers picks m trees next) (sym (add-one k))
      (falling-suc picks k trees now next falling pass falls)

  -- falling passes, and others after them
  pub falling-then : (picks : List ℕ) (k j : ℕ) (trees now new : List (List ℕ))
      → AreFallingPasses board numbers picks k trees now → ArePasses board numbers picks j now new
      → ArePasses board numbers picks (k + j) trees new
  falling-then picks zero j trees now new same rest =
      let none : j ≡ 0 + j = omega arith in
      subst (λ (m : ℕ). ArePasses board numbers picks m trees new) none
      (subst (λ (ts : List (List ℕ)). ArePasses board numbers picks j ts new) (sym same) rest)
  falling-then picks (suc k) j trees now new falling rest =
      let more : suc (k + j) ≡ suc k + j = omega arith in
      subst (λ (m : ℕ). ArePasses board numbers picks m trees new) more (
        falling.0,
        falling.1,
        falling-then picks k j falling.0 now new falling.3 rest,
      )

  -- passes that fall are passes
  passes-fall : (picks : List ℕ) (k : ℕ) (trees new : List (List ℕ))
      → AreFallingPasses board numbers picks k trees new → ArePasses board numbers picks k trees new
  passes-fall picks zero trees new same = same
  passes-fall picks (suc k) trees new falling =
      (falling.0, falling.1, passes-fall picks k falling.0 new falling.3)

  -- ---- where nothing moves

  IsPass-rest : (picks : List ℕ) (trees : List (List ℕ))
      → ((n : ℕ) → Contains picks n → IsShortFor board numbers n trees)
      → IsPass board numbers picks trees trees
  IsPass-rest [] trees short = refl
  IsPass-rest (n ∷ picks) trees short = (
    trees,
    IsTurn-stay board trees numbers n (short n (Contains-get_or (n ∷ picks) 0 0 (omega arith))),
    IsPass-rest picks trees (λ m there. short m (suc there.0, omega (arith, there.1), there.2)),
  )

  -- where the trees of all picked nets are short, so many passes may change nothing
  ArePasses-rest : (picks : List ℕ) (k : ℕ) (trees : List (List ℕ))
      → ((n : ℕ) → Contains picks n → IsShortFor board numbers n trees)
      → ArePasses board numbers picks k trees trees
  ArePasses-rest picks zero trees short = refl
  ArePasses-rest picks (suc k) trees short = (
    trees,
    IsPass-rest picks trees short,
    ArePasses-rest picks k trees short,
  )

  -- so many passes, the last of which change nothing
  passes-settled : (picks : List ℕ) (k passes : ℕ) (trees now : List (List ℕ)) → k ≤ passes
      → AreFallingPasses board numbers picks k trees now → IsSettled board numbers picks now
      → ArePasses board numbers picks passes trees now
  passes-settled picks k passes trees now few falling settled =
      let rest : k + (passes - k) ≡ passes = omega (arith, few) in
      subst (λ (m : ℕ). ArePasses board numbers picks m trees now) rest
      (falling-then picks k (passes - k) trees now now falling
      (ArePasses-rest picks (passes - k) now (λ n there. (settled n there).short)))

  -- ---- what stands whenever the call ends

  pub rerouted-none : (picks : List ℕ) (trees : List (List ℕ)) → AreMinimalTrees board trees
      → AreRerouted board numbers picks trees trees
  rerouted-none picks trees minimal = record {
    minimal = minimal;
    unpicked = λ n apart. refl;
    not_above =
        omega arith;
  }

  pub rerouted-then : (picks : List ℕ) (trees now new : List (List ℕ))
      → AreRerouted board numbers picks trees now → AreRerouted board numbers picks now new
      → AreRerouted board numbers picks trees new
  rerouted-then picks trees now new first second = record {
    minimal = second.minimal;
    unpicked = λ n apart. second.unpicked n apart ∙ first.unpicked n apart;
    not_above = omega (arith, first.not_above, second.not_above);
  }

  -- ---- a pass under way

  -- the turns of the first picks have been taken
  pub record IsPassing (picks : List ℕ) (i : ℕ) (trees now : List (List ℕ)) (moved : Bool) : Type 0 where
    pub rerouted : AreRerouted board numbers picks trees now
    pub pass : IsPass board numbers (take i picks) trees now
    pub falls : moved ≡ true → load_cost board now numbers < load_cost board trees numbers
    pub stays : moved ≡ false → now ≡ trees
    pub settled : moved ≡ false → IsSettled board numbers (take i picks) now

  pub passing-none : (picks : List ℕ) (trees : List (List ℕ)) → AreMinimalTrees board trees
      → IsPassing picks 0 trees trees false
  passing-none picks trees minimal = record {
    rerouted = rerouted-none picks trees minimal;
    pass = refl;
    falls = λ never. absurd cc;
    stays = λ _. refl;
    settled = λ _ n there. absurd (omega (arith, there.1));
  }

  -- what a turn does
  pub record HasTurned (n : ℕ) (now next : List (List ℕ)) (replaced : Bool) : Type 0 where
    pub minimal : AreMinimalTrees board next
    pub turn : IsTurn board numbers n now next
    pub falls : replaced ≡ true → load_cost board next numbers < load_cost board now numbers
    pub stays : replaced ≡ false → next ≡ now
    pub settled : replaced ≡ false → IsSettledFor board numbers n next

  not-above : (now next : List (List ℕ)) (replaced : Bool)
      → (replaced ≡ true → load_cost board next numbers < load_cost board now numbers)
      → (replaced ≡ false → next ≡ now) → load_cost board next numbers ≤ load_cost board now numbers
  not-above now next true falls stays = omega (arith, falls refl)
  not-above now next false falls stays =
      omega (arith, ap (λ (ts : List (List ℕ)). load_cost board ts numbers) (stays refl))

  turn-rerouted : (picks : List ℕ) (n : ℕ) (now next : List (List ℕ)) (replaced : Bool) → Contains picks n
      → HasTurned n now next replaced → AreRerouted board numbers picks now next
  turn-rerouted picks n now next replaced picked turned = record {
    minimal = turned.minimal;
    unpicked = λ m apart. (
        let other : m ≢ n = λ same. apart (subst (Contains picks) (sym same) picked) in
        ap (λ (ts : List (List ℕ)). tree_of ts m) turned.turn.others
        ∙ get_or-set_other now n m (tree_of next n) [] other);
    not_above = not-above now next replaced turned.falls turned.stays;
  }

  falls-either : (trees now next : List (List ℕ)) (moved replaced : Bool)
      → (moved ≡ true → load_cost board now numbers < load_cost board trees numbers)
      → load_cost board now numbers ≤ load_cost board trees numbers
      → (replaced ≡ true → load_cost board next numbers < load_cost board now numbers)
      → load_cost board next numbers ≤ load_cost board now numbers → (moved || replaced) ≡ true
      → load_cost board next numbers < load_cost board trees numbers
  falls-either trees now next true replaced before not_above after not_above' either =
      omega (arith, before refl, not_above')
  falls-either trees now next false replaced before not_above after not_above' either =
      omega (arith, after either, not_above)

  neither : (moved replaced : Bool) → (moved || replaced) ≡ false → (moved ≡ false) × (replaced ≡ false)
  neither true replaced none = absurd cc
  neither false replaced none = (refl, none)

  pub passing-more : (picks : List ℕ) (i : ℕ) (trees now next : List (List ℕ)) (moved replaced : Bool)
      → i < length picks → IsPassing picks i trees now moved → HasTurned (get_or picks i 0) now next replaced
      → IsPassing picks (i + 1) trees next (moved || replaced)
  passing-more picks i trees now next moved replaced there so_far turned =
      let n : ℕ = get_or picks i 0 in
      let rerouted : AreRerouted board numbers picks now next =
      turn-rerouted picks n now next replaced (Contains-get_or picks i 0 there) turned in
      record {
        rerouted = rerouted-then picks trees now next so_far.rerouted rerouted;
        pass = subst (λ (ns : List ℕ). IsPass board numbers ns trees next) (sym (take_more picks i 0 there))
            (IsPass-more (take i picks) n trees now next so_far.pass turned.turn);
        falls = falls-either trees now next moved replaced so_far.falls so_far.rerouted.not_above turned.falls
            rerouted.not_above;
        stays = λ none. (let none' = neither moved replaced none in turned.stays none'.1
            ∙ so_far.stays none'.0);
        settled = λ none m picked. (
            let none' = neither moved replaced none in
            ⊎_elim
            (λ (before : Contains (take i picks) m).
            subst (IsSettledFor board numbers m) (sym (turned.stays none'.1))
            (so_far.settled none'.0 m before))
            (λ (last : n ≡ m). subst (λ (k : ℕ). IsSettledFor board numbers k next) last
            (turned.settled none'.1))
            (Contains-push_cases (take i picks) n m
            (subst (λ (ns : List ℕ). Contains ns m) (take_more picks i 0 there) picked)));
      }

  -- ---- the end of a call

  -- a pass that changes nothing, after passes that fall
  pub rests-made : (picks : List ℕ) (done passes : ℕ) (trees now new : List (List ℕ)) → done < passes
      → AreFallingPasses board numbers picks done trees now → IsPass board numbers picks now new → new ≡ now
      → ComesToRest board numbers picks passes trees new
  rests-made picks done passes trees now new fewer falling pass same = record {
    done = done;
    fewer = fewer;
    falling = subst (AreFallingPasses board numbers picks done trees) (sym same) falling;
    rest = subst (λ (ts : List (List ℕ)). IsPass board numbers picks ts new) (sym same) pass;
  }

  -- so many passes, whether or not one of them changes nothing
  pub all-passes : (picks : List ℕ) (passes : ℕ) (trees new : List (List ℕ)) (settled : Bool)
      → (settled ≡ true → IsSettled board numbers picks new)
      → (settled ≡ true → ComesToRest board numbers picks passes trees new)
      → (settled ≡ false → AreFallingPasses board numbers picks passes trees new)
      → ArePasses board numbers picks passes trees new
  all-passes picks passes trees new true settles rests falls =
      passes-settled picks (rests refl).done passes trees new (omega (arith, (rests refl).fewer))
      (rests refl).falling (settles refl)
  all-passes picks passes trees new false settles rests falls =
      passes-fall picks passes trees new (falls refl)
