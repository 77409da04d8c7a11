use Rattle.std.proofs.Common.{◌≡◌, ◌++◌, ◌∷◌, [], take, drop}
use Rattle.std.specs.List.{flat_map}
use Rattle.rad_pairs.specs.ValueText.{two_digits}
use Rattle.rad_pairs.specs.ReadingBack.{AreOctets}
use Rattle.rad_pairs.proofs.printing.put_hexadecimal.Given as goal

abbrev pub invariant-loop-octet : goal.invariant-loop-octet
invariant-loop-octet l = record {
  text : l.text.items ≡ (l.fn.text.items ++ 48 ∷ 120 ∷ []) ++ flat_map two_digits (take l.octet-index l.octets);
  range : AreOctets (drop l.octet-index l.octets) → AreOctets l.octets;
}
