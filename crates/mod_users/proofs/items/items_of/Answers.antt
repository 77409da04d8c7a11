use Rattle.std.proofs.Common.{◌≡◌, true, ◌<◌, length, sym, arith}
use Rattle.std.proofs.lemmas.Bool.{eqb-true, eqb-false}
use Rattle.mod_users.specs.ItemParts.{solid}
use Rattle.mod_users.specs.Items.{items_of}
use Rattle.mod_users.proofs.ItemTurns.{starts, goes_on, ends, is_done}
use Rattle.mod_users.proofs.items.items_of.Goals as goal

pub loop-rest-init : goal.loop-rest-init
loop-rest-init c = rw (c.new-items.ensures.items, c.solid-rest.ensures.rest) (starts c.args.form c.args.dict.now c.args.number c.args.width c.args.parted c.args.text.now)

pub loop-rest-preserved : goal.loop-rest-preserved
loop-rest-preserved c =
    let rest = c.loop-rest.rest.now in
    let long : 0 < length rest = omega (arith, eqb-false (length rest) 0 (sym c.loop-rest-test.ensures)) in
    let shorter : length (solid true c.in-Ok.after.now) < length rest = rw (← c.solid-rest-in-Ok.ensures.rest) (omega (arith, c.solid-rest-in-Ok.ensures.shorter, c.in-Ok.ensures.shorter)) in
    let total = items_of c.args.form c.args.parted c.args.number c.args.width c.args.text.now c.args.dict.now in
    rw (c.in_ok-push-in-Ok.ensures.items, c.placed.ensures, c.solid-rest-in-Ok.ensures.rest)
    (goes_on c.args.form c.args.dict.now c.args.number c.args.width c.loop-rest.items.items rest total c.in-Ok.seen c.in-Ok.after.now long c.in-Ok.ensures.exact shorter c.loop-rest.invariant)

pub returns-in-Err-Wrong : goal.returns-in-Err-Wrong
returns-in-Err-Wrong c =
    let rest = c.loop-rest.rest.now in
    let long : 0 < length rest = omega (arith, eqb-false (length rest) 0 (sym c.loop-rest-test.ensures)) in
    let total = items_of c.args.form c.args.parted c.args.number c.args.width c.args.text.now c.args.dict.now in
    let said = rw c.in-Err-Wrong.field-0-is at c.in-Err-Wrong.ensures.exact in
    rw (c.from_vec.ensures, c.fault_in.ensures) (rw (← c.in-Err-Wrong.wrong-is) at (ends c.args.form c.args.dict.now c.args.number c.args.width c.loop-rest.items.items rest total c.in-Err-Wrong.wrong long said c.loop-rest.invariant))

pub returns : goal.returns
returns c =
    let rest = c.loop-rest.rest.now in
    let ended : length rest ≡ 0 = eqb-true (length rest) 0 (sym c.loop-rest-test.ensures) in
    let total = items_of c.args.form c.args.parted c.args.number c.args.width c.args.text.now c.args.dict.now in
    rw c.from_vec-2.ensures (is_done c.args.form c.args.dict.now c.args.number c.args.width c.loop-rest.items.items rest total ended c.loop-rest.invariant)
