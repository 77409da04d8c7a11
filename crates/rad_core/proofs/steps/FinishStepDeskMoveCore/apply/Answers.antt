use Rattle.std.proofs.Common.{[], ◌∷◌, ◌++◌, subst}
use Rattle.rad_policy.specs.Seen.{ending_seen}
use Rattle.rad_core.specs.Entry.{Finish}
use Rattle.rad_core.specs.Behind.{StandsFor}
use Rattle.rad_core.proofs.Behind.{stands_on}
use Rattle.rad_core.proofs.steps.FinishStepDeskMoveCore.apply.Goals as goal

pub returns-clause-stands : goal.returns-clause-stands
returns-clause-stands g c = λ log stands may.
    subst (λ outcome. StandsFor g.P.Policy.meaning c.end.new.self (log ++ Finish c.args.self.now.worker c.args.self.now.ticket.place (ending_seen outcome) ∷ [])) c.replace-outcome.ensures.value
    (stands_on g.P.Policy.meaning log _ _ _ stands c.end.ensures.step)
