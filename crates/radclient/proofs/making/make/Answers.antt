use Rattle.std.proofs.Common.{◌≤◌, ◌<◌, length, arith}
use Rattle.radclient.specs.Client.{packet}
use Rattle.radclient.specs.Making.{made}
use Rattle.radclient.specs.Seen.{Seen}
use Rattle.radclient.proofs.Makings.{draws_twice, making_result, too_long}
use Rattle.radclient.proofs.making.make.Goals as goal

pub returns-then-len-ge-MOST-clause-goes : goal.returns-then-len-ge-MOST-clause-goes
returns-then-len-ge-MOST-clause-goes g c = λ next wire wire_faults out out_faults.
    let before : Seen = record { wire = wire; wire_faults = wire_faults; luck = g.U.Luck.told c.args.luck.now; out = out; out_faults = out_faults } in
    let long : 2147483648 ≤ length c.args.pairs.now.request = omega (arith, c.if-len-ge-MOST.true, c.len.ensures.length) in
    too_long c.args.asked.now c.args.id c.args.pairs.now.request next long before

pub returns-clause-goes : goal.returns-clause-goes
returns-clause-goes g c = λ next wire wire_faults out out_faults.
    let asked = c.args.asked.now in
    let pairs = c.args.pairs.now.request in
    let before : Seen = record { wire = wire; wire_faults = wire_faults; luck = g.U.Luck.told c.args.luck.now; out = out; out_faults = out_faults } in
    let now : Seen = record { wire = wire; wire_faults = wire_faults; luck = g.U.Luck.told c.word-low.new.self; out = out; out_faults = out_faults } in
    let short : length pairs < 2147483648 = omega (arith, c.if-len-ge-MOST.false, c.len.ensures.length) in
    let high = c.word-high.result in
    let low = c.word-low.result in
    making_result asked c.args.id pairs next (packet asked c.args.id pairs next) (made asked c.args.id high low pairs) before now c.request_of.result c.request_of.ensures.made
    (draws_twice asked c.args.id pairs next high low before (g.U.Luck.told c.word-high.new.self) (g.U.Luck.told c.word-low.new.self) short c.word-high.ensures c.word-low.ensures)
