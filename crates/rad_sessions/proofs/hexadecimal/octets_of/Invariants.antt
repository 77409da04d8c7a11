use Rattle.std.proofs.Common.{◌≡◌, ◌++◌, length}
use Rattle.rad_sessions.specs.Log.{octets_of}
use Rattle.rad_sessions.proofs.hexadecimal.octets_of.Given as goal

abbrev pub invariant-loop-rest : goal.invariant-loop-rest
invariant-loop-rest l = l.octets.items ++ octets_of l.rest ≡ octets_of l.digits

abbrev pub decreases-loop-rest : goal.decreases-loop-rest
decreases-loop-rest l = length l.rest
