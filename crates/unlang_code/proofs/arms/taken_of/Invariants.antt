use Rattle.std.proofs.Common.{drop}
use Rattle.unlang_code.proofs.Asking.{Stands}
use Rattle.unlang_code.proofs.arms.taken_of.Given as goal

abbrev pub invariant-loop-arm : goal.invariant-loop-arm
invariant-loop-arm l = Stands l.dict l.fn.scope l.arms (drop l.arm-index l.arms) l.scope
