use Rattle.std.proofs.Common.{drop}
use Rattle.unlang_code.proofs.Lines.{Stands}
use Rattle.unlang_code.proofs.update.do_lines.Given as goal

abbrev pub invariant-loop-line : goal.invariant-loop-line
invariant-loop-line l = Stands l.dict l.fn.scope l.lines (drop l.line-index l.lines) l.scope
