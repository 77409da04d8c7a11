use Rattle.std.proofs.Common.{◌+◌, ◌*◌, ◌≤◌, length}
use Rattle.unlang_xlat.specs.Reading.{braced, parts_in}
use Rattle.unlang_xlat.proofs.Turns.{Enough}
use Rattle.unlang_xlat.proofs.reading.+reading.Given as goal

-- Within a level each function calls those below it, and only a part in braces goes a level deeper.
abbrev pub decreases-braced : goal.decreases-braced
decreases-braced l = 8 * l.levels

abbrev pub decreases-part_at : goal.decreases-part_at
decreases-part_at l = 8 * l.levels + 1

abbrev pub decreases-piece_at : goal.decreases-piece_at
decreases-piece_at l = 8 * l.levels + 2

abbrev pub decreases-second_at : goal.decreases-second_at
decreases-second_at l = 8 * l.levels + 2

abbrev pub decreases-parts_in : goal.decreases-parts_in
decreases-parts_in l = 8 * l.levels + 3

abbrev pub decreases-call_at : goal.decreases-call_at
decreases-call_at l = 8 * l.levels + 4

abbrev pub decreases-alternative_at : goal.decreases-alternative_at
decreases-alternative_at l = 8 * l.levels + 4

abbrev pub decreases-named_at : goal.decreases-named_at
decreases-named_at l = 8 * l.levels + 5

abbrev pub invariant-parts_in-loop-octet : goal.invariant-parts_in-loop-octet
invariant-parts_in-loop-octet l = record {
  parts : Enough (braced l.dict l.levels) l.outer l.parts l.rest (parts_in (braced l.dict l.levels) l.outer (length l.text) l.text);
  shorter : length l.rest ≤ length l.text;
}

abbrev pub decreases-parts_in-loop-octet : goal.decreases-parts_in-loop-octet
decreases-parts_in-loop-octet l = length l.rest
