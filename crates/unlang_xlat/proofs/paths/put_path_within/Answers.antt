use Rattle.std.proofs.Common.{arith}
use Rattle.unlang_xlat.specs.Paths.{path_part}
use Rattle.unlang_xlat.proofs.Cuts.{cut_off}
use Rattle.unlang_xlat.proofs.paths.put_path_within.Goals as goal

pub returns-then-len-ge-LONGEST : goal.returns-then-len-ge-LONGEST
returns-then-len-ge-LONGEST c = λ more. cut_off c.args.text.now.items (path_part c.args.scope.now c.args.dict.now c.args.part.now) more (omega arith)
