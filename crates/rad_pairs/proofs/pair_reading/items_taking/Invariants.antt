use Rattle.std.proofs.Common.{◌≤◌, length}
use Rattle.rad_pairs.specs.PlainItems.{part_taking}
use Rattle.rad_pairs.proofs.Turns.{Enough, read_by}
use Rattle.rad_pairs.proofs.pair_reading.items_taking.Given as goal

abbrev pub invariant-loop-rest : goal.invariant-loop-rest
invariant-loop-rest l = record {
  parts : Enough l.items.items l.rest (part_taking l.taking l.dict) (read_by (part_taking l.taking l.dict) l.text);
  shorter : length l.rest ≤ length l.text;
}

abbrev pub decreases-loop-rest : goal.decreases-loop-rest
decreases-loop-rest l = length l.rest
