use Rattle.std.proofs.Common.{◌≡◌, drop, map}
use Rattle.rad_words.specs.Names.{row_of, number_in}
use Rattle.rad_words.proofs.names.number_in.Given as goal

abbrev pub invariant-loop-row : goal.invariant-loop-row
invariant-loop-row l = number_in (map row_of (drop l.row-index l.rows)) l.name ≡ number_in (map row_of l.rows) l.name
