use Rattle.std.proofs.Common.{◌≡◌, ℕ, ◌<◌, length, get_or}
use Rattle.std.specs.Prelude.{bit_xor}
use Rattle.rad_packet.proofs.block.xored_block.Given as goal

abbrev pub invariant-loop-i : goal.invariant-loop-i
invariant-loop-i l = record {
  long : length l.octets ≡ 16;
  each : (k : ℕ) → k < l.i → get_or l.octets k 0 ≡ bit_xor (get_or l.block k 0) (get_or l.digest k 0);
}
