use Rattle.std.proofs.Common.{◌≡◌, ◌<◌, length, map}
use Rattle.std.specs.Arc.{arc_value}
use Rattle.rad_sessions.specs.Listed.{AreInOrder}
use Rattle.rad_sessions.specs.Parts.{AreParts}
use Rattle.rad_sessions.proofs.parts.Parts.of.Given as goal

abbrev pub invariant-loop-number : goal.invariant-loop-number
invariant-loop-number l = record {
  so_far : AreParts 0 (map arc_value l.parts.items) l.listed;
  count : length l.parts.items ≡ l.number;
  order : 0 < l.number → AreInOrder l.listed;
}
