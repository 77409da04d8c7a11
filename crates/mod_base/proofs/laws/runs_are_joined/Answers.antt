use Rattle.mod_base.proofs.Reached.{reaches_joined, stops_joined}
use Rattle.mod_base.proofs.laws.runs_are_joined.Goals as goal

pub returns-clause-reaches : goal.returns-clause-reaches
returns-clause-reaches c = reaches_joined

pub returns-clause-stops : goal.returns-clause-stops
returns-clause-stops c = stops_joined
