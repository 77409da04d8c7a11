use Rattle.std.proofs.Common.{◌≡◌, ◌++◌, take}
use Rattle.unlang_reference.specs.Values.{others}
use Rattle.unlang_reference.proofs.reference.put_others.Given as goal

abbrev pub invariant-loop-value : goal.invariant-loop-value
invariant-loop-value l = l.text.items ≡ l.fn.text.items ++ others l.attr (take l.value-index l.values) l.dict
