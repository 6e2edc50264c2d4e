use Rattle.std.proofs.Common.{ℕ, ◌+◌, List, Some, refl, sym, ap, subst, ◌∙◌}
use Rattle.std.specs.List.{slice_range}
use Rattle.tdm_lines.specs.Pending.{StandsFor, Scanned}
use Rattle.tdm_lines.proofs.PendingLemmas.{RunSoFar, RunSoFar-push, RunSoFar-pending, RunSoFar-none, StandsFor-run}
use Rattle.tdm_lines.proofs.pushed.Scan.push_token.Goals as goal

pub loop-end-preserved : goal.loop-end-preserved
loop-end-preserved c =
    let inside = c.self.inside in
    let bytes : List ℕ = c.args.bytes.now in
    subst (λ (s : Scanned). RunSoFar bytes c.args.at (c.loop-end.end + 1) s.max s.pending
    c.extend-reading.result) c.self.view_is
    (RunSoFar-push bytes c.args.at c.loop-end.end inside.max inside.pending c.loop-end.reading
    c.extend-reading.result
    (subst (λ (s : Scanned). RunSoFar bytes c.args.at c.loop-end.end s.max s.pending c.loop-end.reading)
    (sym c.self.view_is) c.loop-end.invariant)
    c.loop-end-test.true (sym c.is_token_byte.ensures ∙ c.if-is_token_byte.true) c.extend-reading.ensures)

pub returns-then-at-end-clause-stands : goal.returns-then-at-end-clause-stands
returns-then-at-end-clause-stands c = λ text stands.
    let inside = c.self.inside in
    let bytes : List ℕ = c.args.bytes.now in
    let run : List ℕ = slice_range bytes c.args.at c.loop-end.end in
    let before : Scanned = record { max = inside.max; line = inside.line; pending = inside.pending } in
    let after : Scanned = record { max = inside.max; line = inside.line; pending = Some c.end_of.result } in
    let so_far = subst (λ (s : Scanned). RunSoFar bytes c.args.at c.loop-end.end s.max s.pending
    c.loop-end.reading) (sym c.self.view_is) c.loop-end.invariant in
    StandsFor-run before after 0 text (subst (λ (s : Scanned). StandsFor s text) (sym c.self.view_is) stands)
    refl run c.loop-end.invariant.token_bytes refl
    (λ token is. ap Some c.end_of.ensures
    ∙ RunSoFar-pending bytes c.args.at c.loop-end.end inside.max inside.pending c.loop-end.reading
    so_far c.if-at-end.true token is)

pub returns-else-at-end-clause-stands : goal.returns-else-at-end-clause-stands
returns-else-at-end-clause-stands c = λ text stands.
    let bytes : List ℕ = c.args.bytes.now in
    let now : Scanned = c.args.self.now in
    StandsFor-run now now 0 text stands refl (slice_range bytes c.args.at c.loop-end.end)
    c.loop-end.invariant.token_bytes refl
    (RunSoFar-none bytes c.args.at c.loop-end.end now.max now.pending c.loop-end.reading c.loop-end.invariant
    c.if-at-end.false)
