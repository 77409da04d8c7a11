use Rattle.std.proofs.Common.{◌≡◌, ◌≤◌, take, length}
use Rattle.rad_packet.specs.Hiding.{without_trailing_zeros}
use Rattle.rad_packet.proofs.hiding.count_without_zeros.Given as goal

abbrev pub invariant-loop-kept : goal.invariant-loop-kept
invariant-loop-kept l = record {
  within : l.kept ≤ length l.octets;
  so_far : without_trailing_zeros (take l.kept l.octets) ≡ without_trailing_zeros l.octets;
}

abbrev pub decreases-loop-kept : goal.decreases-loop-kept
decreases-loop-kept l = l.kept
