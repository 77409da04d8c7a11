use Rattle.std.proofs.Common.{◌≡◌, length}
use Rattle.rad_words.specs.Attribute.{same_attr}
use Rattle.rad_index.specs.Search.{found_at}
use Rattle.rad_dict.proofs.search.attr_at.Given as goal

abbrev pub invariant-loop-place : goal.invariant-loop-place
invariant-loop-place l = found_at (λ row. same_attr row.id l.id) l.rows l.rest ≡ found_at (λ row. same_attr row.id l.id) l.rows l.places

abbrev pub decreases-loop-place : goal.decreases-loop-place
decreases-loop-place l = length l.rest
