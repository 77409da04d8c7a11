use Rattle.rad_policy.specs.Seen.{arrived_of}
use Rattle.rad_site.proofs.Requests.{gives_outcome}
use Rattle.rad_site.proofs.policy.GenerationPolicy.access.Goals as goal

pub returns-in-Ok-clause-outcome : goal.returns-in-Ok-clause-outcome
returns-in-Ok-clause-outcome g c =
    gives_outcome c.args.self.now (arrived_of c.args.arrival.now) c.args.moment c.args.luck c.in-Ok.outcome c.in-Ok.ensures.outcome
