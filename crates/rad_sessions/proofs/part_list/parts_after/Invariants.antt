use Rattle.std.proofs.Common.{◌≡◌, ◌+◌, ◌++◌, drop, map, length}
use Rattle.std.specs.Arc.{arc_value}
use Rattle.rad_sessions.specs.Parts.{parts_after}
use Rattle.rad_sessions.proofs.part_list.parts_after.Given as goal

abbrev pub invariant-loop-part : goal.invariant-loop-part
invariant-loop-part l = record {
  so_far : map arc_value l.next.items ++ parts_after l.number (map arc_value (drop l.part-index l.parts)) l.change ≡ parts_after 0 (map arc_value l.parts) l.change;
  count : l.number + length (drop l.part-index l.parts) ≡ length l.parts;
}
