use Rattle.std.proofs.Common.{◌≡◌, [], drop, map}
use Rattle.std.specs.Arc.{arc_value}
use Rattle.rad_sessions.specs.Parts.{joined}
use Rattle.rad_sessions.proofs.part_list.joined.Given as goal

abbrev pub invariant-loop-part : goal.invariant-loop-part
invariant-loop-part l = joined l.listed (map arc_value (drop l.part-index l.parts)) ≡ joined [] (map arc_value l.parts)
