use Rattle.std.proofs.Common.{◌≡◌, ◌++◌, drop}
use Rattle.unlang_xlat.specs.Texts.{cut}
use Rattle.unlang_xlat.specs.Paths.{path_of, path_expanded}
use Rattle.unlang_xlat.proofs.paths.cut_path.Given as goal

abbrev pub invariant-loop-part : goal.invariant-loop-part
invariant-loop-part l = cut (l.path.items ++ path_of l.scope l.dict (drop l.part-index l.parts)) ≡ path_expanded l.scope l.dict l.parts
