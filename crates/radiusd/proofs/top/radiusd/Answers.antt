use Rattle.std.proofs.Common.{map, string_bytes, sym, subst}
use Rattle.radiusd.proofs.Statuses.{FaultGives-number, listed}
use Rattle.radiusd.specs.Statuses.{IsListed}
use Rattle.radiusd.proofs.top.radiusd.Goals as goal

pub returns-clause-found : goal.returns-clause-found
returns-clause-found g c = FaultGives-number (map string_bytes c.args.words.now) (g.F.Files.told c.args.files.now) (g.F.Files.told c.run.new.files) c.run.result c.number.result c.number.ensures c.run.ensures.found

pub returns-clause-listed : goal.returns-clause-listed
returns-clause-listed g c = subst IsListed (sym c.number.ensures) (listed c.run.result)
