use Rattle.std.proofs.Common.{drop, arith}
use Rattle.rad_wire.proofs.ProxyStates.{Counts-taken, Counts-passed, Counts-end, states_count, states_short}
use Rattle.rad_wire.proofs.proxy_state.proxy_states_len.Goals as goal
use Rattle.rad_wire.proofs.proxy_state.proxy_states_len.Goals.{then-front-eq-PROXY_STATE, else-front-eq-PROXY_STATE}

pub loop-front-preserved : goal.loop-front-preserved
loop-front-preserved c =
    let front = c.in-Some.front in
    let count = c.loop-front.count in
    elim c.if-front-eq-PROXY_STATE.branch [
      | then-front-eq-PROXY_STATE w ↦
          rw w.count-is (Counts-taken (drop 20 c.args.request.now.octets.now) c.loop-front.rest.now front.rest.now front.octets.now front.value.now front.kind count w.if-front-eq-PROXY_STATE.true c.loop-front.invariant c.in-Some.ensures.found)
      | else-front-eq-PROXY_STATE w ↦
          rw w.count-is (Counts-passed (drop 20 c.args.request.now.octets.now) c.loop-front.rest.now front.rest.now front.octets.now front.value.now front.kind count w.if-front-eq-PROXY_STATE.false c.loop-front.invariant c.in-Some.ensures.found)
    ]

pub returns-clause-value : goal.returns-clause-value
returns-clause-value c =
    let octets = c.args.request.now.octets.now in
    states_count octets c.loop-front.count c.requires.well_formed
    (Counts-end (drop 20 octets) c.loop-front.rest.now c.loop-front.count c.loop-front.invariant c.in_default.ensures.none)

pub returns-clause-bound : goal.returns-clause-bound
returns-clause-bound c =
    omega (arith, returns-clause-value c, states_short c.args.request.now.octets.now c.requires.well_formed)
