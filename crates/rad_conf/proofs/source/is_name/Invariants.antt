use Rattle.std.proofs.Common.{◌≡◌, length}
use Rattle.rad_conf.specs.Includes.{is_name}
use Rattle.rad_conf.proofs.source.is_name.Given as goal

abbrev pub invariant-loop-octet : goal.invariant-loop-octet
invariant-loop-octet l = is_name l.rest ≡ is_name l.name

abbrev pub decreases-loop-octet : goal.decreases-loop-octet
decreases-loop-octet l = length l.rest
