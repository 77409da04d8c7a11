use Rattle.std.proofs.Common.{◌≡◌, length}
use Rattle.rad_conf.specs.Words.{spelled_from, spelled}
use Rattle.rad_conf.proofs.spelling.spelled.Given as goal

abbrev pub invariant-loop-after : goal.invariant-loop-after
invariant-loop-after l = spelled_from l.growth l.how l.out.items l.ahead l.rest ≡ spelled l.growth l.how l.raw

abbrev pub decreases-loop-after : goal.decreases-loop-after
decreases-loop-after l = length l.rest
