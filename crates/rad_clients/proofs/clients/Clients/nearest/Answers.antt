use Rattle.std.proofs.Common.{ap, sym, ◌∙◌, arith}
use Rattle.std.specs.Option.{option_copied}
use Rattle.rad_clients.proofs.Nearest.{nearest_here, nearest_next, nearest_last}
use Rattle.rad_clients.proofs.clients.Clients.nearest.Goals as goal

pub returns-in-Some : goal.returns-in-Some
returns-in-Some c =
    let found = sym c.of_network.ensures ∙ ap option_copied c.in-Some.is in
    sym (nearest_here c.loop-bits.bits c.args.addr c.args.self.now c.in-Some.client.now found) ∙ c.loop-bits.invariant.1

pub loop-bits-preserved : goal.loop-bits-preserved
loop-bits-preserved c =
    let none = sym c.of_network.ensures ∙ ap option_copied c.in_default.is in
    (omega (arith, c.loop-bits.invariant.0), nearest_next c.loop-bits.bits c.args.addr c.args.self.now c.loop-bits-test.true none ∙ c.loop-bits.invariant.1)

pub returns : goal.returns
returns c =
    c.of_network-2.ensures ∙ sym (nearest_last c.loop-bits.bits c.args.addr c.args.self.now (omega (arith, c.loop-bits-test.false))) ∙ c.loop-bits.invariant.1
