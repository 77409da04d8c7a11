use Rattle.std.proofs.Common.{◌≡◌, refl}
use Rattle.rad_outside.specs.Files.{FilesTold}
use Rattle.rad_outside.specs.declared.files.Found.TheVariants as found
use Rattle.radwho.specs.Run.{IsLog}
use Rattle.rad_outside.proofs.Tellings.{Tells-same, Tells-weaker}
use Rattle.radwho.proofs.Logs.{log_read, log_bad}
use Rattle.radwho.proofs.showing.log_at.Goals as goal

pub returns-in-Ok-clause-told : goal.returns-in-Ok-clause-told
returns-in-Ok-clause-told g c =
    Tells-weaker (λ (before now : FilesTold). (now ≡ before) × IsLog before.present c.args.path.now c.read.result) (g.F.Files.told c.args.files.now) (g.F.Files.told c.read.new.self)
    (λ before now r. (r.0, log_read before.present c.args.path.now c.in-Ok.path.now c.read.result c.in-Ok.ensures.cases.0 c.in-Ok.ensures.cases.1 r.1)) c.read.ensures.told

pub returns-in-Err-clause-told : goal.returns-in-Err-clause-told
returns-in-Err-clause-told g c =
    Tells-same (λ (before now : FilesTold). (now ≡ before) × IsLog before.present c.args.path.now found.Missing) (g.F.Files.told c.args.files.now)
    (λ before. (refl, log_bad before.present c.args.path.now c.in-Err.ensures.cases.0))
