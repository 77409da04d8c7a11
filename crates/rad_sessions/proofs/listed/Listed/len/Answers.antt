use Rattle.std.proofs.Common.{sym, ◌∙◌}
use Rattle.std.specs.Arc.{arc_value}
use Rattle.rad_sessions.proofs.Keying.{keyed_length}
use Rattle.rad_sessions.proofs.listed.Listed.len.Goals as goal

pub returns : goal.returns
returns c = rw (← c.self.view_is) (c.len.ensures.len ∙ sym (keyed_length arc_value c.self.inside.entries.entries))
