use Rattle.std.proofs.lemmas.List.Elements.{All-push}
use Rattle.rad_edge.specs.MemCrew.{IsFresh}
use Rattle.rad_edge.proofs.mem.crew.MemCrew.add.Goals as goal

pub invariant_of-self-2 : goal.invariant_of-self-2
invariant_of-self-2 g c =
    let fresh = IsFresh g.W.Wire.failures_in_a_row in
    rw c.in_ok-push_back.ensures.items (All-push fresh c.self.inside.spares.items c.args.kit c.self.invariant c.requires)
