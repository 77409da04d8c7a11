use Rattle.std.proofs.Common.{◌≡◌, ◌++◌, length}
use Rattle.rad_conf.specs.Includes.{named_in}
use Rattle.rad_conf.proofs.source.named_in.Given as goal

abbrev pub invariant-loop-name : goal.invariant-loop-name
invariant-loop-name l = l.paths.items ++ named_in l.path l.rest ≡ named_in l.path l.fn.names

abbrev pub decreases-loop-name : goal.decreases-loop-name
decreases-loop-name l = length l.rest
