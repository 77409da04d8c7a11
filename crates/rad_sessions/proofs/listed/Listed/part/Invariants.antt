use Rattle.std.proofs.Common.{◌≡◌, [], filter}
use Rattle.std.specs.Arc.{arc_value}
use Rattle.rad_sessions.specs.Keyed.{sessions_of}
use Rattle.rad_sessions.specs.Parts.{all_begun, is_in}
use Rattle.rad_sessions.proofs.listed.Listed.part.Given as goal

abbrev pub invariant-loop-session : goal.invariant-loop-session
invariant-loop-session l = all_begun l.listed (filter (is_in l.part) (sessions_of arc_value l.session-iterator)) ≡ all_begun [] (filter (is_in l.part) l.self)
