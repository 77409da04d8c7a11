use Rattle.std.proofs.Common.{◌≡◌, ◌+◌, ◌≤◌, length}
use Rattle.std.specs.Arc.{arc_value}
use Rattle.rad_sessions.specs.Listed.{count_of}
use Rattle.rad_sessions.specs.Keyed.{sessions_of}
use Rattle.rad_sessions.proofs.listed.Listed.count.Given as goal

abbrev pub invariant-loop-session : goal.invariant-loop-session
invariant-loop-session l = record {
  so_far : l.count + count_of l.user (sessions_of arc_value l.session-iterator) ≡ count_of l.user l.self;
  bound : l.count + length (sessions_of arc_value l.session-iterator) ≤ length l.self;
}
