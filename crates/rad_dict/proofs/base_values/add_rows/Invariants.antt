use Rattle.std.proofs.Common.{◌≡◌, ◌++◌, map, drop}
use Rattle.rad_words.specs.Names.{row_of}
use Rattle.rad_dict.specs.Rows.{values_of}
use Rattle.rad_dict.proofs.base_values.add_rows.Given as goal

abbrev pub invariant-loop-name : goal.invariant-loop-name
invariant-loop-name l = l.grown ++ values_of l.attr (map row_of (drop l.name-index l.names)) ≡ l.initial.grown ++ values_of l.attr (map row_of l.names)
