use Rattle.std.proofs.Common.{◌≡◌, length}
use Rattle.std.specs.Str.{str_eq_ignore_ascii_case}
use Rattle.rad_index.specs.Search.{found_at}
use Rattle.rad_dict.proofs.search.attr_named_at.Given as goal

abbrev pub invariant-loop-place : goal.invariant-loop-place
invariant-loop-place l = found_at (λ row. str_eq_ignore_ascii_case row.name l.name) l.rows l.rest ≡ found_at (λ row. str_eq_ignore_ascii_case row.name l.name) l.rows l.places

abbrev pub decreases-loop-place : goal.decreases-loop-place
decreases-loop-place l = length l.rest
