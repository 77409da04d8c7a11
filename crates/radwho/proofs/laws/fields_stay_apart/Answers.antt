use Rattle.radwho.proofs.Shown.{all_printed, no_comma}
use Rattle.radwho.proofs.laws.fields_stay_apart.Goals as goal

pub returns-clause-printed : goal.returns-clause-printed
returns-clause-printed c = all_printed

pub returns-clause-commas : goal.returns-clause-commas
returns-clause-commas c = no_comma
