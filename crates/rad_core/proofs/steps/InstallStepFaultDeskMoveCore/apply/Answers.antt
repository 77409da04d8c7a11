use Rattle.std.proofs.Common.{[], ◌∷◌, ◌++◌, subst}
use Rattle.rad_core.specs.Entry.{Install}
use Rattle.rad_core.specs.Answers.{load_seen}
use Rattle.rad_core.specs.Behind.{StandsFor}
use Rattle.rad_core.proofs.Behind.{stands_on}
use Rattle.rad_core.proofs.steps.InstallStepFaultDeskMoveCore.apply.Goals as goal

pub returns-clause-stands : goal.returns-clause-stands
returns-clause-stands g c = λ log stands may.
    subst (λ load. StandsFor g.P.Policy.meaning c.install.new.self (log ++ Install c.args.self.now.worker (load_seen load) c.args.self.now.listeners.now c.install.result ∷ [])) c.replace-load.ensures.value
    (stands_on g.P.Policy.meaning log _ _ _ stands c.install.ensures.step)
