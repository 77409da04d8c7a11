use Rattle.std.proofs.Common.{◌∙◌}
use Rattle.std.specs.Arc.{arc_value}
use Rattle.rad_sessions.proofs.Keying.{keyed_copy}
use Rattle.rad_sessions.proofs.listed.Listed.copy.Goals as goal

pub invariant_of-result : goal.invariant_of-result
invariant_of-result c = (keyed_copy arc_value c.self.inside.entries.entries c.in_ok-clone.field-0.entries c.in_ok-clone.ensures.cases c.self.invariant).1

pub returns : goal.returns
returns c = (keyed_copy arc_value c.self.inside.entries.entries c.in_ok-clone.field-0.entries c.in_ok-clone.ensures.cases c.self.invariant).0 ∙ c.self.view_is
