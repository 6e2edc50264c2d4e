use Rattle.std.proofs.Common.{◌≡◌, [], ◌∷◌, sym, subst, map, string_bytes, arith}
use Rattle.std.specs.Prelude.{IfNone}
use Rattle.tdm_cli.specs.Words.{IsCommand}
use Rattle.tdm_cli.proofs.WordLaws.{its-elements, if-none, none-of-four}
use Rattle.tdm_cli.proofs.command.parse.Goals as goal

pub returns-in-len3-clause-none : goal.returns-in-len3-clause-none
returns-in-len3-clause-none c =
    let items = its-elements c.args.words.now
    (c.verb-item.result ∷ c.first-item.result ∷ c.second-item.result ∷ []) (omega arith)
    (c.verb-item.is, (c.first-item.is, (c.second-item.is, tt))) in
    let words : map string_bytes c.args.words.now ≡ c.as_str.result.now ∷ c.as_str-in-len3.result.now
    ∷ c.as_str-in-len3-2.result.now ∷ [] =
    rw items (cc (
      c.as_str.ensures.value,
      c.as_str-in-len3.ensures.value,
      c.as_str-in-len3-2.ensures.value,
    )) in
    subst (λ ws. IfNone c.parse_two.result (¬ IsCommand ws)) (sym words) c.parse_two.ensures.none

pub returns-in-len4-clause-none : goal.returns-in-len4-clause-none
returns-in-len4-clause-none c =
    let items = its-elements c.args.words.now
    (c.verb-item-then-words-lt5.result ∷ c.board-item.result ∷ c.solution-item.result
    ∷ c.cert-item.result ∷ []) (omega arith)
    (c.verb-item-then-words-lt5.is, (c.board-item.is, (c.solution-item.is, (c.cert-item.is, tt)))) in
    let words : map string_bytes c.args.words.now ≡ c.as_str-in-len4.result.now
    ∷ c.as_str-in-len4-2.result.now ∷ c.as_str-in-len4-3.result.now ∷ c.as_str-in-len4-4.result.now ∷ [] =
    rw items (cc (
      c.as_str-in-len4.ensures.value,
      c.as_str-in-len4-2.ensures.value,
      c.as_str-in-len4-3.ensures.value,
      c.as_str-in-len4-4.ensures.value,
    )) in
    subst (λ ws. IfNone c.parse_route.result (¬ IsCommand ws)) (sym words)
    (if-none c.parse_route.result _ _ (λ all. none-of-four _ _ _ _ (all [])) c.parse_route.ensures.none)

pub returns-in-len5-clause-none : goal.returns-in-len5-clause-none
returns-in-len5-clause-none c =
    let items = its-elements c.args.words.now
    (c.verb-item-then-words-lt6.result ∷ c.first-item-then-words-lt6.result
    ∷ c.second-item-then-words-lt6.result ∷ c.third-item.result ∷ c.fourth-item.result
    ∷ []) (omega arith) (
      c.verb-item-then-words-lt6.is,
      (
        c.first-item-then-words-lt6.is,
        (c.second-item-then-words-lt6.is, (c.third-item.is, (c.fourth-item.is, tt))),
      ),
    ) in
    let words : map string_bytes c.args.words.now ≡ c.as_str-in-len5.result.now
    ∷ c.as_str-in-len5-2.result.now ∷ c.as_str-in-len5-3.result.now ∷ c.as_str-in-len5-4.result.now
    ∷ c.as_str-in-len5-5.result.now ∷ [] =
    rw items (cc (
      c.as_str-in-len5.ensures.value,
      c.as_str-in-len5-2.ensures.value,
      c.as_str-in-len5-3.ensures.value,
      c.as_str-in-len5-4.ensures.value,
      c.as_str-in-len5-5.ensures.value,
    )) in
    subst (λ ws. IfNone c.parse_five.result (¬ IsCommand ws)) (sym words) c.parse_five.ensures.none

pub returns-in-len6-clause-none : goal.returns-in-len6-clause-none
returns-in-len6-clause-none c =
    let items = its-elements c.args.words.now
    (c.verb-item-then-words-lt7.result ∷ c.fpgas-item.result ∷ c.nets-item.result
    ∷ c.groups-item.result ∷ c.solution-item-then-words-lt7.result
    ∷ c.cert-item-then-words-lt7.result ∷ []) (omega arith) (
      c.verb-item-then-words-lt7.is,
      (
        c.fpgas-item.is,
        (
          c.nets-item.is,
          (c.groups-item.is, (c.solution-item-then-words-lt7.is, (c.cert-item-then-words-lt7.is, tt))),
        ),
      ),
    ) in
    let words : map string_bytes c.args.words.now ≡ c.as_str-in-len6.result.now
    ∷ c.as_str-in-len6-2.result.now ∷ c.as_str-in-len6-3.result.now ∷ c.as_str-in-len6-4.result.now
    ∷ c.as_str-in-len6-5.result.now ∷ c.as_str-in-len6-6.result.now ∷ [] =
    rw items (cc (
      c.as_str-in-len6.ensures.value,
      c.as_str-in-len6-2.ensures.value,
      c.as_str-in-len6-3.ensures.value,
      c.as_str-in-len6-4.ensures.value,
      c.as_str-in-len6-5.ensures.value,
      c.as_str-in-len6-6.ensures.value,
    )) in
    subst (λ ws. IfNone c.parse_demo.result (¬ IsCommand ws)) (sym words) c.parse_demo.ensures.none
