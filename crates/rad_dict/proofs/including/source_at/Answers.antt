use Rattle.std.proofs.Common.{◌≢◌, List, ℕ, Some, refl, sym, ap, ◌∙◌, arith}
use Rattle.rad_outside.specs.Files.{FilesTold, octets_at}
use Rattle.rad_outside.proofs.Tellings.{Tells-same, Tells-weaker}
use Rattle.rad_dict.proofs.Readings.{no_source, some_source}
use Rattle.rad_dict.proofs.including.source_at.Goals as goal

pub returns-in_default-clause-told : goal.returns-in_default-clause-told
returns-in_default-clause-told g c =
    let some : c.args.left ≢ 0 = omega arith in
    Tells-same _ (g.F.Files.told c.args.files.now)
    (λ (b : FilesTold). (refl, no_source c.args.left b.present c.args.root.now c.args.place c.args.file.now c.as_slice.result.now some (c.as_slice.ensures ∙ c.in_ok-path.ensures) c.in_default.ensures.cases.0))

pub returns-in-Bytes-clause-told : goal.returns-in-Bytes-clause-told
returns-in-Bytes-clause-told g c =
    let some : c.args.left ≢ 0 = omega arith in
    Tells-weaker _ (g.F.Files.told c.args.files.now) (g.F.Files.told c.read.new.self)
    (λ (b n : FilesTold) told. (
      told.0,
      some_source c.args.left b.present c.args.root.now c.args.place c.args.file.now c.as_slice.result.now (Some c.in-Bytes.octets) some (c.as_slice.ensures ∙ c.in_ok-path.ensures) c.in-Ok.ensures.cases.1
          (ap (λ (path : List ℕ). octets_at path b.present) (sym c.in-Ok.ensures.cases.0) ∙ told.1),
    ))
    c.in-Bytes.ensures.told
