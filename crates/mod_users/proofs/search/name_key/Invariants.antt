use Rattle.std.proofs.Common.{◌≡◌, drop}
use Rattle.mod_users.specs.Search.{octets_key, name_key}
use Rattle.mod_users.proofs.search.name_key.Given as goal

abbrev pub invariant-loop-octet : goal.invariant-loop-octet
invariant-loop-octet l = octets_key l.key (drop l.octet-index l.name) ≡ name_key l.name
