use Rattle.std.proofs.Common.{drop}
use Rattle.rad_wire.proofs.ProxyStates.{Copies-more, Copies-end, states_are}
use Rattle.rad_wire.proofs.proxy_state.push_proxy_states.Goals as goal

pub loop-front-preserved : goal.loop-front-preserved
loop-front-preserved c =
    let front = c.in-Some.front in
    rw c.in_ok-push_proxy_state.ensures
    (Copies-more c.args.reply.now.items (drop 20 c.args.request.now.octets.now) c.loop-front.rest.now front.rest.now c.loop-front.reply.items front.octets.now front.value.now front.kind c.loop-front.invariant c.in-Some.ensures.found)

pub returns : goal.returns
returns c =
    let octets = c.args.request.now.octets.now in
    states_are octets c.args.reply.now.items c.loop-front.reply.items c.requires.well_formed
    (Copies-end c.args.reply.now.items (drop 20 octets) c.loop-front.rest.now c.loop-front.reply.items c.loop-front.invariant c.in_default.ensures.none)
