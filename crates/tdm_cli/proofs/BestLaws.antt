-- What the best becomes where a better solution or certificate is found.
use Rattle.std.proofs.Common.{◌≡◌, ℕ, ◌/◌, ◌^◌, ◌<◌, ◌≤◌, List, [], length, sym, ap, subst, arith, ◌∙◌}
use Rattle.std.specs.Prelude.{All, sum_by}
use Rattle.std.specs.List.Sorted.{IsStrictlyIncreasing}
use Rattle.std.proofs.lemmas.List.{get_or_default, get_or-map, length-map}
use Rattle.std.proofs.lemmas.List.Elements.{All-map}
use Rattle.tdm_problem.specs.declared.solution.WireUse.{WireUse}
use Rattle.tdm_problem.specs.Board.{Board}
use Rattle.tdm_problem.specs.Legal.{IsLegal, terminals_of}
use Rattle.tdm_problem.specs.Routing.{Routing, ratios_of, uses_of, wires_of, HasRisingWires}
use Rattle.tdm_problem.specs.Trees.{tree_of, trees_of, HasRisingRows}
use Rattle.tdm_problem.specs.Value.{value_of}
use Rattle.tdm_problem.specs.Walk.{IsMinimalTree}
use Rattle.even_legalise.specs.Uniform.{JoinsEachNet}
use Rattle.ripup_reroute.specs.Rerouting.{AreMinimalTrees}
use Rattle.worst_refine.specs.Lowered.{IsLowered}
use Rattle.worst_refine.specs.Traded.{HasSmallRatios}
use Rattle.worst_refine.proofs.Lowering.{same_uses}
use Rattle.worst_refine.proofs.Proposals.{trees_for_legal}
use Rattle.worst_refine.proofs.Worth.{trees_lowered}
use Rattle.tdm_cli.specs.declared.certify.Certified.{Certified}
use Rattle.tdm_cli.specs.Baseline.{most_uses}
use Rattle.tdm_cli.specs.Best.{IsBest, IsCertified}
use Rattle.tdm_cli.proofs.SharedValues.{lengths-of, wires-at}

-- minimal trees join their nets
pub JoinsEachNet-minimal : (board : Board) (trees : List (List ℕ)) → AreMinimalTrees board trees
    → JoinsEachNet board trees
JoinsEachNet-minimal board trees are n there = (are.minimal n there).joins

-- the wires of a solution on trees
on-trees : (trees : List (List ℕ)) (routing : Routing) (n : ℕ) → trees_of routing ≡ trees
    → wires_of (uses_of routing n) ≡ tree_of trees n
on-trees trees routing n on = wires-at routing n ∙ ap (λ (ts : List (List ℕ)). tree_of ts n) on

-- they rise where those of the trees do
rising-on_trees : (trees : List (List ℕ)) (routing : Routing) → trees_of routing ≡ trees → HasRisingRows trees
    → HasRisingWires routing
rising-on_trees trees routing on rising = record {
  net_limit = omega (arith, length-map routing wires_of, ap length on, rising.net_limit);
  rising = λ n none inside.
      let rows : All IsStrictlyIncreasing (trees_of routing) =
      subst (λ (ts : List (List ℕ)). All IsStrictlyIncreasing ts) (sym on) rising.rising in
      subst (λ (es : List ℕ). IsStrictlyIncreasing es) (get_or-map wires_of routing n none [] inside)
      (rows n [] (omega (arith, inside, length-map routing wires_of)));
}

-- a solution on minimal trees, of a value that is not above the best, is the best
pub IsBest-on_trees : (board : Board) (trees : List (List ℕ)) (routing old : Routing) (worth value : ℕ)
    (certified : Certified) → IsBest board old value certified → AreMinimalTrees board trees
    → HasRisingRows trees → sum_by length trees ≤ most_uses
    → trees_of routing ≡ trees → IsLegal board routing
    → All (λ uses. All (λ ratio. ratio < 2 ^ 32) (ratios_of uses)) routing
    → worth ≡ value_of board routing → worth ≤ value → IsBest board routing worth certified
IsBest-on_trees board trees routing old worth value certified best are rising few on legal small worth_is less
    =
    let was = best.may_be_written in
    record {
      may_be_written = record {
        for_board = legal.is_for;
        legal = legal;
        minimal = λ n there. subst (λ (es : List ℕ). IsMinimalTree board es (terminals_of board n))
            (sym (on-trees trees routing n on)) (are.minimal n there);
        few = omega (arith, lengths-of routing, ap (sum_by length) on, few);
        sayable = record {
          limits = was.sayable.limits;
          is_for = legal.is_for;
          rising = rising-on_trees trees routing on rising;
          short = small;
        };
        no_worse = λ other baseline. omega (
          arith,
          was.no_worse other baseline,
          best.value_is,
          worth_is,
          less,
        );
        within = was.within;
        cert_for = was.cert_for;
        cert_few = was.cert_few;
        valid = was.valid;
        is_bound = was.is_bound;
        lower = was.lower;
        hop_floor = was.hop_floor;
        share_floor = was.share_floor;
      };
      value_is = worth_is;
    }

-- ratios of at most the largest even number have 32 bits
pub short-ratios : (routing : Routing) → HasSmallRatios routing
    → All (λ uses. All (λ ratio. ratio < 2 ^ 32) (ratios_of uses)) routing
short-ratios routing small = λ n none inside place zero there. omega (
  arith,
  small n none inside place zero there,
)

-- the trees of a solution that may be written
minimal-trees_of : (board : Board) (routing : Routing) → IsLegal board routing
    → ((n : ℕ) → n < length board.nets
    → IsMinimalTree board (wires_of (uses_of routing n)) (terminals_of board n))
    → AreMinimalTrees board (trees_of routing)
minimal-trees_of board routing legal minimal = record {
  for_board = trees_for_legal board routing legal;
  minimal = λ n there. subst (λ (es : List ℕ). IsMinimalTree board es (terminals_of board n))
      (wires-at routing n) (minimal n there);
}

rising-trees_of : (routing : Routing) → HasRisingWires routing → HasRisingRows (trees_of routing)
rising-trees_of routing rising = record {
  net_limit = omega (arith, length-map routing wires_of, rising.net_limit);
  rising = All-map IsStrictlyIncreasing wires_of routing rising.rising;
}

-- lowered ratios of 32 bits have 32 bits
short-lowered : (old new : Routing) → IsLowered old new
    → All (λ uses. All (λ ratio. ratio < 2 ^ 32) (ratios_of uses)) old
    → All (λ uses. All (λ ratio. ratio < 2 ^ 32) (ratios_of uses)) new
short-lowered old new lowered short = λ n none inside.
    subst (λ (uses : List WireUse). All (λ ratio. ratio < 2 ^ 32) (ratios_of uses))
    (sym (get_or_default new n none [] inside))
    (λ place zero there.
    let same_length : length (ratios_of (uses_of new n)) ≡ length (ratios_of (uses_of old n)) =
    omega (
      arith,
      length-map (uses_of new n) (λ (u : WireUse). u.ratio),
      length-map (uses_of old n) (λ (u : WireUse). u.ratio),
      same_uses old new n (lowered.wires n),
    ) in
    omega (
      arith,
      get_or_default (ratios_of (uses_of new n)) place zero 0 there,
      lowered.ratios n place,
      short n [] (omega (arith, inside, lowered.nets)) place 0 (omega (arith, there, same_length)),
    ))

-- the best solution with lowered ratios
pub IsBest-lowered : (board : Board) (new old : Routing) (worth value : ℕ) (certified : Certified)
    → IsBest board old value certified → IsLegal board new → IsLowered old new
    → value_of board new ≤ value_of board old → worth ≡ value_of board new → IsBest board new worth certified
IsBest-lowered board new old worth value certified best legal lowered less worth_is =
    let was = best.may_be_written in
    IsBest-on_trees board (trees_of old) new old worth value certified best
    (minimal-trees_of board old was.legal was.minimal) (rising-trees_of old was.sayable.rising)
    (omega (arith, lengths-of old, was.few))
    (trees_lowered old new lowered) legal (short-lowered old new lowered was.sayable.short) worth_is
    (omega (arith, less, worth_is, best.value_is))

-- a certificate of a greater bound is the best
pub IsBest-certified : (board : Board) (routing : Routing) (value : ℕ) (old new : Certified)
    → IsBest board routing value old → old.bound < new.bound → IsCertified board new
    → IsBest board routing value new
IsBest-certified board routing value old new best more is =
    let was = best.may_be_written in
    record {
      may_be_written = record {
        for_board = was.for_board;
        legal = was.legal;
        minimal = was.minimal;
        few = was.few;
        sayable = was.sayable;
        no_worse = was.no_worse;
        within = is.within;
        cert_for = is.for_board;
        cert_few = is.few;
        valid = is.valid;
        is_bound = is.is_bound;
        lower = is.lower;
        hop_floor = λ floor of. omega (arith, was.hop_floor floor of, more);
        share_floor = λ floor of. omega (arith, was.share_floor floor of, more);
      };
      value_is = best.value_is;
    }

-- a number over one lane
pub over_one : (n : ℕ) → n ≡ n / 1
over_one n = omega arith
