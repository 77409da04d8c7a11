use Rattle.mod_realm.proofs.Partings.{name_parted}
use Rattle.mod_realm.proofs.laws.names_are_parted_at_the_delimiter.Goals as goal

pub returns : goal.returns
returns c = name_parted
