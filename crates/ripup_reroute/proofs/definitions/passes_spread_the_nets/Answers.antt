use Rattle.std.proofs.Common.{◌<◌, ℕ, List, [], ◌∷◌, refl, subst, arith}
use Rattle.ripup_reroute.specs.Samples.{crossing, crowded, spread}
use Rattle.ripup_reroute.specs.Turns.{IsTurn, IsPass}
use Rattle.ripup_reroute.proofs.Crossing.{crowded-long, turn-spreads, turn-rests}
use Rattle.ripup_reroute.proofs.definitions.passes_spread_the_nets.Goals as goal

pass-spreads : IsPass crossing (1 ∷ 1 ∷ []) (1 ∷ []) crowded spread
pass-spreads = (spread, turn-spreads, refl)

pass-rests : IsPass crossing (1 ∷ 1 ∷ []) (1 ∷ []) spread spread
pass-rests = (spread, turn-rests, refl)

no-rest : ¬ IsPass crossing (1 ∷ 1 ∷ []) (1 ∷ []) crowded crowded
no-rest pass =
    let P : List (List ℕ) → Type 0 = λ next. IsTurn crossing (1 ∷ 1 ∷ []) 1 crowded next in
    let turn : IsTurn crossing (1 ∷ 1 ∷ []) 1 crowded crowded = subst P pass.2 pass.1 in
    crowded-long turn.short

pub returns-clause-pass : goal.returns-clause-pass
returns-clause-pass c = pass-spreads

pub returns-clause-none : goal.returns-clause-none
returns-clause-none c = no-rest

pub returns-clause-two : goal.returns-clause-two
returns-clause-two c = (spread, pass-spreads, (spread, pass-rests, refl))

pub returns-clause-rest : goal.returns-clause-rest
returns-clause-rest c = record {
  done = 1;
  fewer = omega arith;
  falling = (spread, pass-spreads, (let falls : 2 < 4 = omega arith in falls), refl);
  rest = pass-rests;
}

pub returns-clause-early : goal.returns-clause-early
returns-clause-early c comes = omega (arith, comes.fewer)

pub returns-clause-restless : goal.returns-clause-restless
returns-clause-restless c comes = no-rest comes.rest
