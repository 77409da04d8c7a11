use Rattle.std.proofs.Common.{sym, subst}
use Rattle.std.specs.Arc.{arc_value}
use Rattle.rad_sessions.specs.Keyed.{list_of}
use Rattle.rad_sessions.specs.Listed.{AreInOrder}
use Rattle.rad_sessions.proofs.Sizes.{none_in_order}
use Rattle.rad_sessions.proofs.sessions.Sessions.sorted.Goals as goal

pub returns-in-None-clause-order : goal.returns-in-None-clause-order
returns-in-None-clause-order c = rw (← c.self.view_is) (subst (λ o. AreInOrder (list_of arc_value o)) (sym c.in-None.is) none_in_order)
