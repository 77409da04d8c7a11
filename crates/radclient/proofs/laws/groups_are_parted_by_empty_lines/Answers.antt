use Rattle.radclient.proofs.Parting.{groups_are}
use Rattle.radclient.proofs.Righted.{groups_right}
use Rattle.radclient.proofs.laws.groups_are_parted_by_empty_lines.Goals as goal

pub returns-clause-groups : goal.returns-clause-groups
returns-clause-groups c = λ text groups is. groups_are text groups is

pub returns-clause-right : goal.returns-clause-right
returns-clause-right c = λ text groups is. groups_right text groups is
