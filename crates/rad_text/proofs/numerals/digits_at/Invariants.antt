use Rattle.std.proofs.Common.{◌≡◌, ◌<◌, ◌≤◌, length}
use Rattle.rad_text.specs.Numerals.{digits_at}
use Rattle.rad_text.proofs.numerals.digits_at.Given as goal

abbrev pub invariant-loop-octet : goal.invariant-loop-octet
invariant-loop-octet l = record {
  so_far : digits_at l.radix l.number l.rest ≡ digits_at l.radix 0 l.text;
  shorter : length l.rest ≤ length l.text;
  fits : l.number < 4294967296;
}

abbrev pub decreases-loop-octet : goal.decreases-loop-octet
decreases-loop-octet l = length l.rest
