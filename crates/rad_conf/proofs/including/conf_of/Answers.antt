use Rattle.std.proofs.Common.{◌∙◌}
use Rattle.std.proofs.lemmas.Result.{err_from_is_err_and}
use Rattle.rad_outside.specs.Files.{FilesTold}
use Rattle.rad_outside.proofs.Tellings.{Tells-weaker}
use Rattle.rad_conf.proofs.Confs.{conf_fails, conf_goes}
use Rattle.rad_conf.proofs.including.conf_of.Goals as goal

pub returns-in_err-text_read-clause-told : goal.returns-in_err-text_read-clause-told
returns-in_err-text_read-clause-told g c =
    let p = err_from_is_err_and c.from_residual-in_err-text_read.result c.from_residual-in_err-text_read.ensures.1 in
    rw (p.1, p.2)
    (Tells-weaker _ (g.F.Files.told c.args.files.now) (g.F.Files.told c.text_read.new.files)
    (λ (b n : FilesTold) told. (
      told.0,
      conf_fails c.args.dir.now c.args.name.now c.args.text.now c.as_bytes.result.now c.as_bytes-2.result.now b.present c.new-growth.result c.in_err-text_read.field-0.0 (c.as_bytes.ensures.value ∙ c.in_ok-root.ensures) c.as_bytes-2.ensures.value c.new-growth.ensures told.1,
    ))
    c.in_err-text_read.ensures.told)

pub returns-clause-told : goal.returns-clause-told
returns-clause-told g c =
    Tells-weaker _ (g.F.Files.told c.args.files.now) (g.F.Files.told c.text_read.new.files)
    (λ (b n : FilesTold) told. (
      told.0,
      conf_goes c.args.dir.now c.args.name.now c.args.text.now c.as_bytes.result.now c.as_bytes-2.result.now b.present c.new-growth.result c.text_read.new.growth c.into_conf.result (c.as_bytes.ensures.value ∙ c.in_ok-root.ensures) c.as_bytes-2.ensures.value c.new-growth.ensures told.1 c.into_conf.ensures,
    ))
    c.in_ok-text_read.ensures.told
