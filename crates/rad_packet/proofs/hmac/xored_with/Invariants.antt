use Rattle.std.proofs.Common.{◌≡◌, ℕ, ◌++◌, take, drop, map}
use Rattle.std.specs.Prelude.{bit_xor}
use Rattle.rad_packet.proofs.hmac.xored_with.Given as goal

abbrev pub invariant-loop-i : goal.invariant-loop-i
invariant-loop-i l = l.octets ≡ map (λ (octet : ℕ). bit_xor octet l.pad) (take l.i l.block) ++ drop l.i l.block
