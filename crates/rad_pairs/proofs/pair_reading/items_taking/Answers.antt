use Rattle.std.proofs.Common.{◌≡◌, ◌<◌, length, sym, ap, arith}
use Rattle.std.proofs.lemmas.Bool.{eqb-true, eqb-false}
use Rattle.rad_pairs.specs.Items.{placed}
use Rattle.rad_pairs.specs.PlainItems.{part_taking}
use Rattle.rad_pairs.proofs.Turns.{read_by, goes_on, ends, is_done, said_fault}
use Rattle.rad_pairs.proofs.pair_reading.items_taking.Goals as goal

pub loop-rest-preserved : goal.loop-rest-preserved
loop-rest-preserved c =
    let text = c.args.text.now in
    let read = part_taking c.args.taking c.args.dict.now in
    let long : 0 < length c.loop-rest.rest.now = omega (arith, eqb-false (length c.loop-rest.rest.now) 0 (sym c.loop-rest-test.ensures)) in
    record {
      parts = rw c.in_ok-add-in-Ok.ensures.ok (goes_on c.loop-rest.items.items c.loop-rest.rest.now read (read_by read text) c.in-Ok.item c.in-Ok.after.now long c.in-Ok.ensures.exact c.in-Ok.ensures.shorter c.loop-rest.invariant.parts);
      shorter = omega (arith, c.in-Ok.ensures.shorter);
    }

pub returns-in-Err : goal.returns-in-Err
returns-in-Err c =
    let text = c.args.text.now in
    let read = part_taking c.args.taking c.args.dict.now in
    let long : 0 < length c.loop-rest.rest.now = omega (arith, eqb-false (length c.loop-rest.rest.now) 0 (sym c.loop-rest-test.ensures)) in
    rw c.fault_at.ensures (said_fault text (read_by read text) c.in-Err.error (ends c.loop-rest.items.items c.loop-rest.rest.now read (read_by read text) c.in-Err.error long c.in-Err.ensures.exact c.loop-rest.invariant.parts))

pub returns : goal.returns
returns c =
    let text = c.args.text.now in
    let read = part_taking c.args.taking c.args.dict.now in
    let ended : length c.loop-rest.rest.now ≡ 0 = eqb-true (length c.loop-rest.rest.now) 0 (sym c.loop-rest-test.ensures) in
    rw c.from_vec.ensures (ap (placed text) (is_done c.loop-rest.items.items c.loop-rest.rest.now read (read_by read text) ended c.loop-rest.invariant.parts))
