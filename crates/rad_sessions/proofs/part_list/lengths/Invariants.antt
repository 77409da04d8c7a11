use Rattle.std.proofs.Common.{◌≡◌, ◌+◌, drop, map}
use Rattle.std.specs.Arc.{arc_value}
use Rattle.rad_sessions.specs.Parts.{lengths}
use Rattle.rad_sessions.proofs.part_list.lengths.Given as goal

abbrev pub invariant-loop-part : goal.invariant-loop-part
invariant-loop-part l = l.length + lengths (map arc_value (drop l.part-index l.parts)) ≡ lengths (map arc_value l.parts)
