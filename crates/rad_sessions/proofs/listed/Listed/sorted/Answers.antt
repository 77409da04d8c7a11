use Rattle.std.proofs.Common.{subst}
use Rattle.std.specs.Arc.{arc_value}
use Rattle.std.specs.List.Sorted.{IsStrictlySortedBy}
use Rattle.rad_sessions.specs.Listed.{place_cmp}
use Rattle.rad_sessions.proofs.Keying.{keyed_places}
use Rattle.rad_sessions.proofs.listed.Listed.sorted.Goals as goal

pub returns-clause-order : goal.returns-clause-order
returns-clause-order c = rw (← c.self.view_is) (subst (IsStrictlySortedBy place_cmp) (keyed_places arc_value c.self.inside.entries.entries c.self.invariant) c.iter-session-items.ensures.ordered)
