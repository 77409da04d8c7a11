use Rattle.std.proofs.Common.{◌≡◌, ℕ, ◌<◌, ◌≤◌, length, get_or}
use Rattle.rad_packet.proofs.hmac.zero_filled.Given as goal

abbrev pub invariant-loop-i : goal.invariant-loop-i
invariant-loop-i l = record {
  long : length l.block ≡ 64;
  front : (k : ℕ) → k < l.i → get_or l.block k 0 ≡ get_or l.octets k 0;
  back : (k : ℕ) → l.i ≤ k → k < 64 → get_or l.block k 0 ≡ 0;
}
