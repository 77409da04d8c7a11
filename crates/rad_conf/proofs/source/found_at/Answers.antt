use Rattle.std.proofs.Common.{List, ℕ, Option, Ok, refl, ap, ◌∙◌}
use Rattle.rad_outside.specs.Files.{FilesTold}
use Rattle.rad_outside.proofs.Tellings.{Tells-same, Tells-weaker}
use Rattle.rad_conf.proofs.Sources.{found_good, found_bad}
use Rattle.rad_conf.proofs.source.found_at.Goals as goal

pub returns-in_default-clause-told : goal.returns-in_default-clause-told
returns-in_default-clause-told g c =
    Tells-same _ (g.F.Files.told c.args.files.now)
    (λ (b : FilesTold). (refl, ap (λ (found : Option (List ℕ)). Ok found) (rw (← (c.as_slice.ensures ∙ c.in_ok-path.ensures)) (found_bad c.as_slice.result.now b.present c.in_default.ensures.cases.0))))

pub returns-in-Bytes-clause-told : goal.returns-in-Bytes-clause-told
returns-in-Bytes-clause-told g c =
    Tells-weaker _ (g.F.Files.told c.args.files.now) (g.F.Files.told c.read.new.self)
    (λ (b n : FilesTold) told. (
      told.0,
      ap (λ (found : Option (List ℕ)). Ok found) (rw (← (c.as_slice.ensures ∙ c.in_ok-path.ensures)) (found_good c.as_slice.result.now c.in-Ok.path.now b.present c.in-Ok.ensures.cases.0 c.in-Ok.ensures.cases.1 ∙ told.1)),
    ))
    c.in-Bytes.ensures.told
