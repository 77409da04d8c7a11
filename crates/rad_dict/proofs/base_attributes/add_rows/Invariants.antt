use Rattle.std.proofs.Common.{◌≡◌, ◌++◌, map, drop}
use Rattle.rad_words.specs.Names.{row_of}
use Rattle.rad_dict.specs.Rows.{attrs_of}
use Rattle.rad_dict.proofs.base_attributes.add_rows.Given as goal

abbrev pub invariant-loop-i : goal.invariant-loop-i
invariant-loop-i l = l.grown ++ attrs_of l.space (map row_of (drop l.i l.names)) (drop l.i l.kinds) ≡ l.initial.grown ++ attrs_of l.space (map row_of l.names) l.kinds
