use Rattle.std.proofs.Common.{◌≡◌, ◌++◌, map}
use Rattle.std.specs.Arc.{arc_value}
use Rattle.rad_sessions.specs.Keyed.{sessions_of}
use Rattle.rad_sessions.proofs.listed.Listed.sorted.Given as goal

abbrev pub invariant-loop-session : goal.invariant-loop-session
invariant-loop-session l = map arc_value l.items.items ++ sessions_of arc_value l.session-iterator ≡ l.self
