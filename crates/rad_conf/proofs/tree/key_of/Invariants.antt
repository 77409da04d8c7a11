use Rattle.std.proofs.Common.{◌≡◌, drop}
use Rattle.rad_conf.specs.Places.{octets_key, key_of}
use Rattle.rad_conf.proofs.tree.key_of.Given as goal

abbrev pub invariant-loop-octet : goal.invariant-loop-octet
invariant-loop-octet l = octets_key l.key (drop l.octet-index l.name) ≡ key_of l.name
