use Rattle.cert_checker.proofs.MarkedListLaws.{added-there}
use Rattle.cert_checker.proofs.Rests.{listed-added}
use Rattle.cert_checker.proofs.growth.wear_wire.Goals as goal

pub returns-clause-listed : goal.returns-clause-listed
returns-clause-listed c = λ lengths are.
    let old = c.args.worn.now.listed in
    let new = c.add.new.self.listed in
    c.take_off.ensures.listed new (added-there c.args.wire old new c.in_ok-add.ensures.added) lengths
    (listed-added lengths c.args.up.now.items c.args.down.now.items old new c.args.wire c.requires.up
    c.in_ok-add.ensures.added are)
