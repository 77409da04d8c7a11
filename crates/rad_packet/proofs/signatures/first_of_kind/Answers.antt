use Rattle.std.proofs.Common.{[]}
use Rattle.rad_packet.proofs.Signing.{Makes-passed, first_found, first_missing}
use Rattle.rad_packet.proofs.signatures.first_of_kind.Goals as goal

pub loop-front-preserved : goal.loop-front-preserved
loop-front-preserved c =
    let front = c.in-Some.front in
    Makes-passed c.args.kind c.args.attributes.now c.loop-front.rest.now front.rest.now front.octets.now front.value.now front.kind [] c.if-front-kind.false c.loop-front.invariant c.in-Some.ensures.found

pub returns-then-front-kind : goal.returns-then-front-kind
returns-then-front-kind c all are =
    let front = c.in-Some.front in
    first_found c.args.kind c.args.attributes.now c.loop-front.rest.now front.rest.now front.octets.now front.value.now front.kind c.if-front-kind.true c.loop-front.invariant c.in-Some.ensures.found all are

pub returns : goal.returns
returns c all are =
    first_missing c.args.kind c.args.attributes.now c.loop-front.rest.now c.loop-front.invariant c.in_default.ensures.none all are
