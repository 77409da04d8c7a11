use Rattle.std.proofs.lemmas.Result.{err_from_is_err_and}
use Rattle.rad_site.proofs.Building.{builds, stops_at_conf, stops_at_dict}
use Rattle.rad_site.proofs.policy.GenerationPolicy.build.Goals as goal

pub returns-clause-told : goal.returns-clause-told
returns-clause-told g c =
    builds c.args.dir.now c.in_ok-conf.conf c.in_ok-dict.dict c.site_of.result (g.F.Files.told c.args.files.now) (g.F.Files.told c.begin.new.self) (g.F.Files.told c.read_conf.new.files) (g.F.Files.told c.dict_at.new.files) (g.F.Files.told c.site_of.new.files)
    c.begin.ensures.told c.in_ok-conf.ensures.told c.in_ok-dict.ensures.told c.site_of.ensures.told

pub returns-in_err-conf-clause-told : goal.returns-in_err-conf-clause-told
returns-in_err-conf-clause-told g c =
    let p = err_from_is_err_and c.from_residual.result c.from_residual.ensures.1 in
    rw (p.1, p.2)
    (stops_at_conf c.args.dir.now c.in_err-conf.field-0.0 (g.F.Files.told c.args.files.now) (g.F.Files.told c.begin.new.self) (g.F.Files.told c.read_conf.new.files) c.begin.ensures.told c.in_err-conf.ensures.told)

pub returns-in_err-dict-clause-told : goal.returns-in_err-dict-clause-told
returns-in_err-dict-clause-told g c =
    let p = err_from_is_err_and c.from_residual-in_err-dict.result c.from_residual-in_err-dict.ensures.1 in
    rw (p.1, p.2)
    (stops_at_dict c.args.dir.now c.in_ok-conf.conf c.in_err-dict.field-0.0 (g.F.Files.told c.args.files.now) (g.F.Files.told c.begin.new.self) (g.F.Files.told c.read_conf.new.files) (g.F.Files.told c.dict_at.new.files)
    c.begin.ensures.told c.in_ok-conf.ensures.told c.in_err-dict.ensures.told)
