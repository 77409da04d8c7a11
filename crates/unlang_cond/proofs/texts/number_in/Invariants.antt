use Rattle.std.proofs.Common.{◌≡◌, ◌-◌, ◌^◌, ◌<◌, ◌≤◌, length}
use Rattle.rad_text.specs.Numerals.{digits_at}
use Rattle.unlang_cond.proofs.texts.number_in.Given as goal

abbrev pub invariant-loop-octet : goal.invariant-loop-octet
invariant-loop-octet l = record {
  so_far : digits_at 10 l.number l.rest ≡ digits_at 10 0 l.text;
  shorter : length l.rest ≤ length l.text;
  some : 1 ≤ length l.text;
  short : length l.text ≤ 38;
  small : l.number < 10 ^ (length l.text - length l.rest);
}

abbrev pub decreases-loop-octet : goal.decreases-loop-octet
decreases-loop-octet l = length l.rest
