use Rattle.std.proofs.Common.{Result, Ok, Err, List, refl, sym, ap}
use Rattle.std.proofs.lemmas.Result.{err_from_is_err_and}
use Rattle.mod_realm.specs.declared.realms.Realm.{Realm}
use Rattle.rad_policy.specs.Policy.{Sources}
use Rattle.rad_build.specs.declared.fault.BuildFault.{BuildFault}
use Rattle.rad_build.specs.Nodes.{◌>>=◌}
use Rattle.rad_build.specs.Modules.{Modules}
use Rattle.rad_build.specs.RealmBlock.{realms_in}
use Rattle.rad_build.specs.ModulesBlock.{modules_over, modules_in}
use Rattle.rad_build.proofs.Finding.{FindsIn-pure, FindsIn-same, FindsIn-stops}
use Rattle.rad_build.proofs.modules.modules_in.Goals as goal

pub returns-in_err-realms-clause-told : goal.returns-in_err-realms-clause-told
unfolding modules_in
returns-in_err-realms-clause-told g c =
    let p = err_from_is_err_and c.from_residual.result c.from_residual.ensures.1 in
    let nodes = c.args.nodes.now in
    let e = c.in_err-realms.field-0.0 in
    let told = g.F.Files.told c.args.files.now in
    rw (p.1, p.2) (FindsIn-stops c.args.dir.now (λ (sources : Sources). realms_in nodes) (λ sources realms. modules_over sources c.args.dict.now realms nodes) e told told
    (FindsIn-pure c.args.dir.now (λ (sources : Sources). realms_in nodes) (Err e) (realms_in nodes) told (λ sources. refl) c.in_err-realms.ensures.fault))

pub returns-clause-told : goal.returns-clause-told
unfolding modules_in
returns-clause-told g c =
    let nodes = c.args.nodes.now in
    let dict = c.args.dict.now in
    let realms = c.in_ok-realms.realms.value in
    FindsIn-same c.args.dir.now (λ sources. modules_over sources dict realms nodes) (λ sources. modules_in sources dict nodes) c.modules_over.result (g.F.Files.told c.args.files.now) (g.F.Files.told c.modules_over.new.files)
    (λ sources. sym (ap (λ (r : Result (List Realm) BuildFault). r >>= λ realms. modules_over sources dict realms nodes) c.in_ok-realms.ensures.realms)) c.modules_over.ensures.told
