-- a right verdict is the only one, and says legal exactly for legal solutions
use Rattle.std.proofs.Common.{◌≡◌, ◌≢◌, ℕ, ◌<◌, Option, Some, None, List, [], length, get_or, sym, ap, ◌∙◌, subst, inl, inr, arith}
use Rattle.std.specs.Prelude.{All, AllPairs, Contains, MatchOption, ◌↔◌}
use Rattle.std.proofs.lemmas.Bool.{cases_order}
use Rattle.std.proofs.lemmas.List.{length-map, get_or-map, get_or_default}
use Rattle.std.proofs.lemmas.List.Elements.{All-contains, All-from_get_or, All-get_or}
use Rattle.tdm_problem.specs.declared.solution.WireUse.{WireUse}
use Rattle.tdm_problem.specs.Board.{Board}
use Rattle.tdm_problem.specs.Routing.{Routing, uses_of, wires_of, ratios_of, IsFor}
use Rattle.tdm_problem.specs.Legal.{IsEvenRatio, IsLegal}
use Rattle.solution_eval.specs.declared.judgement.Verdict.{Verdict}
use Rattle.solution_eval.specs.declared.judgement.Verdict.TheVariants.{Legal, NotJoined, BadRatio, Overfull}
use Rattle.solution_eval.specs.Violations.{IsJoined, HasEvenRatios, IsFitting, AllBelow, IsFirstWithout, IsLowestBadUse, IsFirstBadUse}
use Rattle.solution_eval.specs.Verdict.{IsVerdict, SaysLegal}

-- without a violation the solution is legal
pub legal_from : (board : Board) (routing : Routing) → IsFor board routing
    → AllBelow (IsJoined board routing) (length board.nets)
    → AllBelow (HasEvenRatios routing) (length routing)
    → AllBelow (IsFitting board routing) (length board.wires) → IsLegal board routing
legal_from board routing for joined even fits = record {
  is_for = for;
  joined = joined;
  even = All-from_get_or (λ uses. All IsEvenRatio (ratios_of uses)) routing [] even;
  fits = fits;
}

-- the nets of a legal solution have even ratios
even_nets : (board : Board) (routing : Routing) → IsLegal board routing
    → AllBelow (HasEvenRatios routing) (length routing)
even_nets board routing legal = λ n inside. All-get_or (λ uses. All IsEvenRatio (ratios_of uses)) routing n []
    inside legal.even

-- there is one first at most
first_unique : (Holds : ℕ → Type 0) (limit a b : ℕ) → IsFirstWithout Holds limit a
    → IsFirstWithout Holds limit b → b ≡ a
first_unique Holds limit a b first second = elim (cases_order b a) [
  | inl same ↦ same
  | inr apart ↦ elim apart [
    | inl below ↦ absurd (second.without (first.before b below))
    | inr above ↦ absurd (first.without (second.before a above))
  ]
]

-- where all below have the property, none is the first without
none_first : (Holds : ℕ → Type 0) (limit a : ℕ) → AllBelow Holds limit → IsFirstWithout Holds limit a → ⊥
none_first Holds limit a all first = first.without (all a first.there)

-- a net with a bad use does not have even ratios
not_even : (routing : Routing) (n : ℕ) (wire_use : WireUse) → IsFirstBadUse routing n wire_use
    → HasEvenRatios routing n → ⊥
not_even routing n wire_use first even =
    first.lowest.bad (subst IsEvenRatio (ap (λ (u : WireUse). u.ratio) first.lowest.there.2)
    (subst IsEvenRatio (get_or-map (λ (u : WireUse). u.ratio) (uses_of routing n) first.lowest.there.0
    wire_use 0 first.lowest.there.1)
    (even first.lowest.there.0 0 (omega (
      arith,
      length-map (uses_of routing n) (λ (u : WireUse). u.ratio),
      first.lowest.there.1,
    )))))

-- two uses of one net and one wire are one
same_use : (uses : List WireUse) (u v : WireUse) → AllPairs (λ d e. d ≢ e) (wires_of uses) → Contains uses u
    → Contains uses v → u.wire ≡ v.wire → v ≡ u
same_use uses u v distinct (i, i_in, is_u) (k, k_in, is_v) same =
    let wire_i : get_or (wires_of uses) i 0 ≡ u.wire = get_or-map (λ (x : WireUse). x.wire) uses i u 0 i_in
    ∙ ap (λ (x : WireUse). x.wire) is_u in
    let wire_k : get_or (wires_of uses) k 0 ≡ v.wire = get_or-map (λ (x : WireUse). x.wire) uses k v 0 k_in
    ∙ ap (λ (x : WireUse). x.wire) is_v in
    elim (cases_order i k) [
      | inl at ↦ sym is_v ∙ (ap (λ (j : ℕ). get_or uses j v) (sym at)
          ∙ (get_or_default uses i v u i_in ∙ is_u))
      | inr apart ↦ elim apart [
        | inl before ↦ absurd
            (distinct i k 0 before (omega (arith, length-map uses (λ (x : WireUse). x.wire))) (wire_i
            ∙ (same ∙ sym wire_k)))
        | inr after ↦ absurd (distinct k i 0 after (omega (arith, length-map uses (λ (x : WireUse). x.wire)))
            (wire_k ∙ (sym same ∙ sym wire_i)))
      ]
    ]

-- the lowest bad use of a net is the only one
lowest_unique : (uses : List WireUse) (u v : WireUse) → AllPairs (λ d e. d ≢ e) (wires_of uses)
    → IsLowestBadUse uses u → IsLowestBadUse uses v → v ≡ u
lowest_unique uses u v distinct first second = elim (cases_order u.wire v.wire) [
  | inl same ↦ same_use uses u v distinct first.there second.there same
  | inr apart ↦ elim apart [
    | inl below ↦ absurd
        (first.bad (All-contains (λ (x : WireUse). x.wire < v.wire → IsEvenRatio x.ratio) uses u second.lower
        first.there below))
    | inr above ↦ absurd
        (second.bad (All-contains (λ (x : WireUse). x.wire < u.wire → IsEvenRatio x.ratio) uses v first.lower
        second.there above))
  ]
]

-- the first bad use is in one net
bad_net_unique : (routing : Routing) (n m : ℕ) (u v : WireUse) → IsFirstBadUse routing n u
    → IsFirstBadUse routing m v → m ≡ n
bad_net_unique routing n m u v first second = elim (cases_order m n) [
  | inl same ↦ same
  | inr apart ↦ elim apart [
    | inl below ↦ absurd (not_even routing m v second (first.earlier m below))
    | inr above ↦ absurd (not_even routing n u first (second.earlier n above))
  ]
]

bad_unique : (board : Board) (routing : Routing) (n m : ℕ) (u v : WireUse) → IsFor board routing
    → IsFirstBadUse routing n u → IsFirstBadUse routing m v
    → BadRatio m v.wire v.ratio ≡ BadRatio n u.wire u.ratio
bad_unique board routing n m u v for first second =
    let net : m ≡ n = bad_net_unique routing n m u v first second in
    let here : IsLowestBadUse (uses_of routing n) v =
    subst (λ (k : ℕ). IsLowestBadUse (uses_of routing k) v) net second.lowest in
    let use_is : v ≡ u = lowest_unique (uses_of routing n) u v (for.distinct n [] first.net_there)
    first.lowest here in
    ap (λ (k : ℕ). BadRatio k v.wire v.ratio) net ∙ ap (λ (x : WireUse). BadRatio n x.wire x.ratio) use_is

pub verdict_unique : (board : Board) (routing : Routing) → IsFor board routing → (v w : Verdict)
    → IsVerdict board routing v → IsVerdict board routing w → w ≡ v
verdict_unique board routing for (Legal a) (Legal b) first second =
    ap (λ (k : ℕ). Legal k) (second.1 ∙ sym first.1)
verdict_unique board routing for (Legal a) (NotJoined n) first second =
    absurd (none_first (IsJoined board routing) (length board.nets) n first.0.joined second)
verdict_unique board routing for (Legal a) (BadRatio n e r) first second =
    absurd (not_even routing n (record { wire = e; ratio = r }) second.1
    (even_nets board routing first.0 n second.1.net_there))
verdict_unique board routing for (Legal a) (Overfull e) first second =
    absurd (none_first (IsFitting board routing) (length board.wires) e first.0.fits second.2)
verdict_unique board routing for (NotJoined n) (Legal b) first second =
    absurd (none_first (IsJoined board routing) (length board.nets) n second.0.joined first)
verdict_unique board routing for (NotJoined n) (NotJoined m) first second =
    ap (λ (k : ℕ). NotJoined k) (first_unique (IsJoined board routing) (length board.nets) n m first second)
verdict_unique board routing for (NotJoined n) (BadRatio m e r) first second =
    absurd (none_first (IsJoined board routing) (length board.nets) n second.0 first)
verdict_unique board routing for (NotJoined n) (Overfull e) first second =
    absurd (none_first (IsJoined board routing) (length board.nets) n second.0 first)
verdict_unique board routing for (BadRatio n e r) (Legal b) first second =
    absurd (not_even routing n (record { wire = e; ratio = r }) first.1
    (even_nets board routing second.0 n first.1.net_there))
verdict_unique board routing for (BadRatio n e r) (NotJoined m) first second =
    absurd (none_first (IsJoined board routing) (length board.nets) m first.0 second)
verdict_unique board routing for (BadRatio n e r) (BadRatio m f s) first second =
    bad_unique board routing n m (record { wire = e; ratio = r }) (record { wire = f; ratio = s }) for first.1
    second.1
verdict_unique board routing for (BadRatio n e r) (Overfull f) first second =
    absurd (not_even routing n (record { wire = e; ratio = r }) first.1
    (second.1 n (omega (arith, for.nets, first.1.net_there))))
verdict_unique board routing for (Overfull e) (Legal b) first second =
    absurd (none_first (IsFitting board routing) (length board.wires) e second.0.fits first.2)
verdict_unique board routing for (Overfull e) (NotJoined m) first second =
    absurd (none_first (IsJoined board routing) (length board.nets) m first.0 second)
verdict_unique board routing for (Overfull e) (BadRatio m f s) first second =
    absurd (not_even routing m (record { wire = f; ratio = s }) second.1
    (first.1 m (omega (arith, for.nets, second.1.net_there))))
verdict_unique board routing for (Overfull e) (Overfull f) first second =
    ap (λ (k : ℕ). Overfull k) (first_unique (IsFitting board routing) (length board.wires) e f first.2
    second.2)

pub verdict_legal : (board : Board) (routing : Routing) (v : Verdict) → IsVerdict board routing v
    → (SaysLegal v ↔ IsLegal board routing)
verdict_legal board routing (Legal a) right = (λ _. right.0, λ _. tt)
verdict_legal board routing (NotJoined n) right =
    (λ h. absurd h, λ legal. none_first (IsJoined board routing) (length board.nets) n legal.joined right)
verdict_legal board routing (BadRatio n e r) right = (
  λ h. absurd h,
  λ legal. not_even routing n (record { wire = e; ratio = r }) right.1
      (even_nets board routing legal n right.1.net_there),
)
verdict_legal board routing (Overfull e) right =
    (λ h. absurd h, λ legal. none_first (IsFitting board routing) (length board.wires) e legal.fits right.2)

-- what a look for a first one tells where it found none, and where it found one
pub found_none : {X : Type 0} (o : Option X) (P : Type 0) (Q : X → Type 0) → o ≡ None → MatchOption o P Q → P
found_none o P Q is told = let R : Option _ → Type 0 = λ x. MatchOption x P Q in subst R is told

pub found_some : {X : Type 0} (o : Option X) (x : X) (P : Type 0) (Q : X → Type 0) → o ≡ Some x
    → MatchOption o P Q → Q x
found_some o x P Q is told = let R : Option _ → Type 0 = λ y. MatchOption y P Q in subst R is told
