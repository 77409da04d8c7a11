use Rattle.std.proofs.Common.{◌≡◌, ◌++◌, take}
use Rattle.std.specs.List.{flat_map}
use Rattle.rad_pairs.specs.ValueText.{two_digits}
use Rattle.unlang_xlat.proofs.values.put_hexadecimal.Given as goal

abbrev pub invariant-loop-octet : goal.invariant-loop-octet
invariant-loop-octet l = l.text.items ≡ l.fn.text.items ++ flat_map two_digits (take l.octet-index l.octets)
