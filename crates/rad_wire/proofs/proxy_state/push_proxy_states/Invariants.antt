use Rattle.std.proofs.Common.{drop, length}
use Rattle.rad_wire.proofs.ProxyStates.{Copies}
use Rattle.rad_wire.proofs.proxy_state.push_proxy_states.Given as goal

abbrev pub invariant-loop-front : goal.invariant-loop-front
invariant-loop-front l = Copies l.fn.reply.items (drop 20 l.request.octets.now) l.rest l.reply.items

abbrev pub decreases-loop-front : goal.decreases-loop-front
decreases-loop-front l = length l.rest
