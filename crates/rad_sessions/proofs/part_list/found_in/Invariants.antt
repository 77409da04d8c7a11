use Rattle.std.proofs.Common.{◌≡◌, drop, map}
use Rattle.std.specs.Arc.{arc_value}
use Rattle.rad_sessions.specs.Parts.{found_in}
use Rattle.rad_sessions.proofs.part_list.found_in.Given as goal

abbrev pub invariant-loop-part : goal.invariant-loop-part
invariant-loop-part l = found_in (l.nas, l.port) (map arc_value (drop l.part-index l.parts)) ≡ found_in (l.nas, l.port) (map arc_value l.parts)
