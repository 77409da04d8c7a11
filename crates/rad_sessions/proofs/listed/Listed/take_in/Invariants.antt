use Rattle.std.proofs.Common.{◌≡◌}
use Rattle.std.specs.Arc.{arc_value}
use Rattle.rad_sessions.specs.Keyed.{sessions_of}
use Rattle.rad_sessions.specs.Parts.{all_begun}
use Rattle.rad_sessions.proofs.listed.Listed.take_in.Given as goal

abbrev pub invariant-loop-session : goal.invariant-loop-session
invariant-loop-session l = all_begun l.self (sessions_of arc_value l.session-iterator) ≡ all_begun l.fn.self l.other
