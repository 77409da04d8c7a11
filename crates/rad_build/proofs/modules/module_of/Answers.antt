use Rattle.std.proofs.Common.{sym, ap}
use Rattle.rad_build.specs.ModulesBlock.{plain_module, files_module, module_for, module_of}
use Rattle.rad_build.proofs.Finding.{FindsIn-pure, FindsIn-same}
use Rattle.rad_build.proofs.modules.module_of.Goals as goal

pub returns-in-Some-clause-told : goal.returns-in-Some-clause-told
unfolding module_of
returns-in-Some-clause-told g c =
    let place = c.args.place.now in
    let kind = c.args.kind.now in
    let name = c.args.name.now in
    let items = c.args.items.now in
    FindsIn-same c.args.dir.now (λ sources. files_module c.in-Some.file sources c.args.dict.now place items) (λ sources. module_of sources c.args.dict.now place kind name items) c.files_module.result (g.F.Files.told c.args.files.now) (g.F.Files.told c.files_module.new.files)
    (λ sources. ap (λ o. module_for o sources c.args.dict.now place kind name items) c.in-Some.ensures) c.files_module.ensures.told

pub returns-in-None-clause-told : goal.returns-in-None-clause-told
unfolding module_of
returns-in-None-clause-told g c =
    let place = c.args.place.now in
    let kind = c.args.kind.now in
    let name = c.args.name.now in
    let items = c.args.items.now in
    FindsIn-pure c.args.dir.now (λ sources. module_of sources c.args.dict.now place kind name items) c.plain_module.result (plain_module place kind name items) (g.F.Files.told c.args.files.now)
    (λ sources. ap (λ o. module_for o sources c.args.dict.now place kind name items) (sym c.in-None.ensures)) c.plain_module.ensures
