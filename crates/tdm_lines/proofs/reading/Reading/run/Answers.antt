use Rattle.std.proofs.Common.{◌≡◌, ℕ, ◌+◌, ◌-◌, List, length, ap, sym}
use Rattle.std.specs.List.{slice_range}
use Rattle.tdm_lines.proofs.KeepsLemmas.{stands-run, length-range_is}
use Rattle.tdm_lines.proofs.reading.Reading.run.Goals as goal

pub returns-clause-stands : goal.returns-clause-stands
returns-clause-stands g c = λ text stands.
    let now = c.args.self.now in
    let taken = c.push_token-end.ensures in
    let end : ℕ = c.push_token-end.result in
    let piece : List ℕ = c.args.piece.now in
    let run : List ℕ = slice_range piece c.args.at end in
    let more : now.fed + (end - c.args.at) ≡ now.fed + length run =
    ap (λ (n : ℕ). now.fed + n) (sym (length-range_is piece c.args.at end taken.within)) in
    stands-run now.scan c.push_token-end.new.self now.fed (now.fed + (end - c.args.at)) now.fault now.count
    now.grammar text run taken.token more taken.max taken.line taken.stands stands
