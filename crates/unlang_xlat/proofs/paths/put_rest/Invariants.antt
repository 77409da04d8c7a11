use Rattle.std.proofs.Common.{◌≡◌, ◌++◌, map, take}
use Rattle.unlang_xlat.specs.Paths.{safe_octet}
use Rattle.unlang_xlat.proofs.paths.put_rest.Given as goal

abbrev pub invariant-loop-octet : goal.invariant-loop-octet
invariant-loop-octet l = l.text.items ≡ l.fn.text.items ++ map safe_octet (take l.octet-index l.octets)
