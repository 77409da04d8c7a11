use Rattle.std.proofs.Common.{◌≡◌, length}
use Rattle.rad_dict.specs.Definitions.{is_number_of}
use Rattle.rad_index.specs.Search.{found_at}
use Rattle.rad_dict.proofs.search.value_numbered_at.Given as goal

abbrev pub invariant-loop-place : goal.invariant-loop-place
invariant-loop-place l = found_at (is_number_of l.id l.number) l.rows l.rest ≡ found_at (is_number_of l.id l.number) l.rows l.places

abbrev pub decreases-loop-place : goal.decreases-loop-place
decreases-loop-place l = length l.rest
