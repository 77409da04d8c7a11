use Rattle.std.specs.Arc.{arc_value}
use Rattle.std.specs.Ordering.{is_eq}
use Rattle.rad_sessions.specs.Listed.{place_cmp}
use Rattle.rad_sessions.specs.Keyed.{sessions_of}
use Rattle.rad_sessions.proofs.Keying.{keyed_end, end_keyed}
use Rattle.rad_sessions.proofs.Sizes.{ended_shorter}
use Rattle.rad_sessions.proofs.listed.Listed.end.Goals as goal

pub invariant_of-self : goal.invariant_of-self
invariant_of-self c = rw c.remove.ensures.entries (end_keyed arc_value (λ k. is_eq (place_cmp (c.args.nas, c.args.port) k)) c.self.inside.entries.entries c.self.invariant)

pub returns-clause-list : goal.returns-clause-list
returns-clause-list c = rw (c.remove.ensures.entries, ← c.self.view_is) (keyed_end arc_value (c.args.nas, c.args.port) c.self.inside.entries.entries c.self.invariant)

pub returns-clause-shorter : goal.returns-clause-shorter
returns-clause-shorter c =
    rw (c.remove.ensures.entries, ← c.self.view_is, keyed_end arc_value (c.args.nas, c.args.port) c.self.inside.entries.entries c.self.invariant)
    (ended_shorter (c.args.nas, c.args.port) (sessions_of arc_value c.self.inside.entries.entries))
