use Rattle.std.proofs.Common.{◌≡◌, ◌<◌, drop}
use Rattle.rad_sessions.specs.Parts.{sum_after}
use Rattle.rad_sessions.proofs.part.part_of.Given as goal

abbrev pub invariant-loop-octet : goal.invariant-loop-octet
invariant-loop-octet l = record {
  so_far : sum_after l.sum (drop l.octet-index l.user) ≡ sum_after 0 l.user;
  below : l.sum < 256;
}
