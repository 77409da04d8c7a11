use Rattle.rad_core.proofs.Stemming.{keeps_replies}
use Rattle.rad_core.proofs.laws.repeats_get_the_first_reply.Goals as goal

pub returns : goal.returns
returns g c = record { kept = keeps_replies g.P.Policy.meaning }
