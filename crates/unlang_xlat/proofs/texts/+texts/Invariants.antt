use Rattle.std.proofs.Common.{◌≡◌, ◌++◌, drop}
use Rattle.unlang_xlat.specs.Texts.{cut, text_of, expanded}
use Rattle.unlang_xlat.proofs.texts.+texts.Given as goal

abbrev pub invariant-cut_text-loop-part : goal.invariant-cut_text-loop-part
invariant-cut_text-loop-part l = cut (l.text.items ++ text_of l.scope l.dict (drop l.part-index l.parts)) ≡ expanded l.scope l.dict l.parts
