use Rattle.std.proofs.Common.{◌≡◌, drop}
use Rattle.rad_dict.specs.Keys.{name_key}
use Rattle.rad_dict.proofs.keys.name_key.Given as goal

abbrev pub invariant-loop-octet : goal.invariant-loop-octet
invariant-loop-octet l = name_key l.key (drop l.octet-index l.name) ≡ name_key l.initial.key l.name
