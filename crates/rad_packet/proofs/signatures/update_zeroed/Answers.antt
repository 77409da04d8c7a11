use Rattle.rad_packet.proofs.Signing.{Feeds-start, Feeds-more, Feeds-end}
use Rattle.rad_packet.proofs.signatures.update_zeroed.Goals as goal

pub loop-front-init : goal.loop-front-init
loop-front-init c = Feeds-start c.args.hasher.now c.args.attributes.now

pub loop-front-preserved : goal.loop-front-preserved
loop-front-preserved c =
    let front = c.in-Some.front in
    let octets = c.loop-front.rest.now in
    let split = c.in-Some.ensures.found in
    Feeds-more c.args.hasher.now c.loop-front.hasher c.update_zeroed_front.new.hasher c.args.attributes.now octets front.rest.now front.octets.now front.value.now front.kind c.loop-front.invariant split
    (λ text holds. c.update_zeroed_front.ensures text octets holds split)

pub returns : goal.returns
returns c text all holds are =
    Feeds-end c.args.hasher.now c.loop-front.hasher c.args.attributes.now c.loop-front.rest.now c.loop-front.invariant c.in_default.ensures.none text all holds are
