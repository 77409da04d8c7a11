use Rattle.rad_core.proofs.Behind.{stands_on}
use Rattle.rad_core.proofs.steps.StartStepDeskMoveCore.apply.Goals as goal

pub returns-clause-stands : goal.returns-clause-stands
returns-clause-stands g c = λ log stands may. stands_on g.P.Policy.meaning log _ _ _ stands c.start.ensures.step
