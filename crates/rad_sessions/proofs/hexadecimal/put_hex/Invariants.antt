use Rattle.std.proofs.Common.{◌≡◌, ◌++◌, drop}
use Rattle.rad_sessions.specs.Laws.{AreOctets}
use Rattle.rad_sessions.specs.Log.{hex_of}
use Rattle.rad_sessions.proofs.hexadecimal.put_hex.Given as goal

abbrev pub invariant-loop-octet : goal.invariant-loop-octet
invariant-loop-octet l = record {
  so_far : l.text.items ++ hex_of (drop l.octet-index l.octets) ≡ l.fn.text.items ++ hex_of l.octets;
  typed : AreOctets (drop l.octet-index l.octets) → AreOctets l.octets;
}
