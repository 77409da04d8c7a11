use Rattle.rad_packet.proofs.Signing.{Counted-start, Counted-taken, Counted-passed, Counted-end}
use Rattle.rad_packet.proofs.signatures.count_of_kind.Goals as goal
use Rattle.rad_packet.proofs.signatures.count_of_kind.Goals.{then-front-kind, else-front-kind}

pub loop-front-init : goal.loop-front-init
loop-front-init c = Counted-start c.args.kind c.args.attributes.now

pub loop-front-preserved : goal.loop-front-preserved
loop-front-preserved c =
    let front = c.in-Some.front in
    let octets = c.loop-front.rest.now in
    let count = c.loop-front.count in
    elim c.if-front-kind.branch [
      | then-front-kind w ↦
          rw w.count-is (Counted-taken c.args.kind c.args.attributes.now octets front.rest.now front.octets.now front.value.now front.kind count w.if-front-kind.true c.loop-front.invariant c.in-Some.ensures.found)
      | else-front-kind w ↦
          rw w.count-is (Counted-passed c.args.kind c.args.attributes.now octets front.rest.now front.octets.now front.value.now front.kind count w.if-front-kind.false c.loop-front.invariant c.in-Some.ensures.found)
    ]

pub returns : goal.returns
returns c all are =
    Counted-end c.args.kind c.args.attributes.now c.loop-front.rest.now c.loop-front.count c.loop-front.invariant c.in_default.ensures.none all are
