use Rattle.std.proofs.Common.{◌≡◌, drop, map}
use Rattle.rad_words.specs.Names.{row_of, name_in}
use Rattle.rad_words.proofs.names.name_in.Given as goal

abbrev pub invariant-loop-name : goal.invariant-loop-name
invariant-loop-name l = name_in (map row_of (drop l.name-index l.rows)) l.number ≡ name_in (map row_of l.rows) l.number
