use Rattle.std.proofs.Common.{ap, ◌∙◌}
use Rattle.std.specs.Arc.{arc_value}
use Rattle.std.specs.Option.{option_map}
use Rattle.rad_sessions.proofs.Keying.{keyed_at}
use Rattle.rad_sessions.proofs.listed.Listed.at.Goals as goal

pub returns-in-Some : goal.returns-in-Some
returns-in-Some c =
    rw (← c.self.view_is, c.deref.ensures)
    (ap (λ s. option_map arc_value s) (c.in-Some.ensures.value) ∙ keyed_at arc_value (c.args.nas, c.args.port) c.self.inside.entries.entries c.self.invariant)

pub returns-in-None : goal.returns-in-None
returns-in-None c =
    rw (← c.self.view_is)
    (ap (λ s. option_map arc_value s) (c.in-None.ensures.value) ∙ keyed_at arc_value (c.args.nas, c.args.port) c.self.inside.entries.entries c.self.invariant)
