use Rattle.std.proofs.Common.{drop, length}
use Rattle.rad_wire.proofs.ProxyStates.{Counts}
use Rattle.rad_wire.proofs.proxy_state.proxy_states_len.Given as goal

abbrev pub invariant-loop-front : goal.invariant-loop-front
invariant-loop-front l = Counts (drop 20 l.request.octets.now) l.rest l.count

abbrev pub decreases-loop-front : goal.decreases-loop-front
decreases-loop-front l = length l.rest
