use Rattle.std.proofs.Common.{◌≡◌, ℕ, ◌+◌, ◌<◌, List, [], ◌∷◌, ◌++◌, length, take, slice_index_or, ap, ◌∙◌, codes}
use Rattle.std.specs.List.{flat_map}
use Rattle.std.proofs.lemmas.List.{take_more, append-nil}
use Rattle.std.proofs.lemmas.Grind.{flat_map-append}
use Rattle.command_run.specs.Reports.{numbered}
use Rattle.tdm_cli.proofs.report.unconnectable.Goals as goal

-- the pieces of one more element
flat_map-take : {X A : Type 0} (f : X → List A) (xs : List X) (i : ℕ) (d : X) → i < length xs
    → flat_map f (take (i + 1) xs) ≡ flat_map f (take i xs) ++ f (slice_index_or xs i d)
flat_map-take f xs i d h = ap (flat_map f) (take_more xs i d h)
    ∙ flat_map-append f (take i xs) (slice_index_or xs i d ∷ [])
    ∙ ap (λ t. flat_map f (take i xs) ++ t) (append-nil (f (slice_index_or xs i d)))

pub loop-net-preserved : goal.loop-net-preserved
loop-net-preserved c =
    let more = flat_map-take (numbered (codes "unconnectable net ")) c.args.nets.now c.loop-net.net-index 0
    c.loop-net-test.true in
    cc (c.loop-net.invariant, c.in_ok-push_line.ensures)
