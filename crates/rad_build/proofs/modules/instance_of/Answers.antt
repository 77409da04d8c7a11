use Rattle.std.proofs.Common.{cond, sym, ap}
use Rattle.rad_build.specs.ModulesBlock.{module_of, realm_module, instance_of}
use Rattle.rad_build.proofs.Finding.{FindsIn-pure, FindsIn-same}
use Rattle.rad_build.proofs.modules.instance_of.Goals as goal

pub returns-then-is_realm-clause-told : goal.returns-then-is_realm-clause-told
unfolding instance_of
returns-then-is_realm-clause-told g c =
    let place = c.args.place.now in
    let kind = c.args.kind.now in
    let name = c.args.name.now in
    let items = c.args.items.now in
    let realms = c.args.realms.now.value in
    FindsIn-pure c.args.dir.now (λ sources. instance_of sources c.args.dict.now realms place kind name items) c.realm_module.result (realm_module realms items) (g.F.Files.told c.args.files.now)
    (λ sources. ap (λ b. cond b (realm_module realms items) (module_of sources c.args.dict.now place kind name items)) (sym c.if-is_realm.ensures)) c.realm_module.ensures

pub returns-clause-told : goal.returns-clause-told
unfolding instance_of
returns-clause-told g c =
    let place = c.args.place.now in
    let kind = c.args.kind.now in
    let name = c.args.name.now in
    let items = c.args.items.now in
    let realms = c.args.realms.now.value in
    FindsIn-same c.args.dir.now (λ sources. module_of sources c.args.dict.now place kind name items) (λ sources. instance_of sources c.args.dict.now realms place kind name items) c.module_of.result (g.F.Files.told c.args.files.now) (g.F.Files.told c.module_of.new.files)
    (λ sources. ap (λ b. cond b (realm_module realms items) (module_of sources c.args.dict.now place kind name items)) c.if-is_realm.ensures) c.module_of.ensures.told
