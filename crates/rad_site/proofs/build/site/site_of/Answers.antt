use Rattle.std.proofs.Common.{List, Result, Err, refl}
use Rattle.std.proofs.lemmas.Result.{err_from_is_err_and}
use Rattle.rad_packet.specs.declared.client.Client.{Client}
use Rattle.rad_build.specs.declared.settings.Settings.{Settings}
use Rattle.rad_policy.specs.Policy.{Sources}
use Rattle.rad_build.specs.declared.fault.BuildFault.{BuildFault}
use Rattle.rad_site.specs.Site.{Site}
use Rattle.rad_build.specs.Nodes.{◌>>=◌}
use Rattle.rad_build.specs.ModulesBlock.{modules_in}
use Rattle.rad_site.specs.Built.{front_in, site_behind, site_of}
use Rattle.rad_build.proofs.Finding.{FindsIn-pure, FindsIn-stops, FindsIn-then}
use Rattle.rad_site.proofs.Sites.{behind_clients}
use Rattle.rad_site.proofs.build.site.site_of.Goals as goal

pub returns-in_err-front-clause-told : goal.returns-in_err-front-clause-told
unfolding site_of
returns-in_err-front-clause-told g c =
    let p = err_from_is_err_and c.from_residual.result c.from_residual.ensures.1 in
    let nodes = c.args.conf.now in
    let e = c.in_err-front.field-0.0 in
    let read : Sources → Settings × List Client → Result Site BuildFault = λ sources clients. modules_in sources c.args.dict nodes >>= λ modules. site_behind c.args.dict clients modules nodes in
    rw (p.1, p.2) (FindsIn-stops c.args.dir.now (λ sources. front_in nodes) read e (g.F.Files.told c.args.files.now) (g.F.Files.told c.args.files.now)
    (FindsIn-pure c.args.dir.now (λ sources. front_in nodes) (Err e) (front_in nodes) (g.F.Files.told c.args.files.now) (λ sources. refl) (rw (c.as_slice-nodes.ensures, c.root.ensures) at c.in_err-front.ensures)))

pub returns-in_err-modules-clause-told : goal.returns-in_err-modules-clause-told
returns-in_err-modules-clause-told g c =
    let p = err_from_is_err_and c.from_residual-in_err-modules.result c.from_residual-in_err-modules.ensures.1 in
    let nodes = c.args.conf.now in
    let e = c.in_err-modules.field-0.0 in
    let clients = c.in_ok-front.front in
    rw (p.1, p.2) (behind_clients c.args.dir.now c.args.dict nodes clients (Err e) (g.F.Files.told c.args.files.now) (g.F.Files.told c.modules_in.new.files) (rw (c.as_slice-nodes.ensures, c.root.ensures) at c.in_ok-front.ensures)
    (FindsIn-stops c.args.dir.now (λ sources. modules_in sources c.args.dict nodes) (λ sources modules. site_behind c.args.dict clients modules nodes) e (g.F.Files.told c.args.files.now) (g.F.Files.told c.modules_in.new.files) (rw (c.as_slice-nodes.ensures, c.root.ensures) at c.in_err-modules.ensures.told)))

pub returns-clause-told : goal.returns-clause-told
returns-clause-told g c =
    let nodes = c.args.conf.now in
    let clients = c.in_ok-front.front in
    let modules = c.in_ok-modules.modules in
    let now = g.F.Files.told c.modules_in.new.files in
    let behind = site_behind c.args.dict clients modules nodes in
    behind_clients c.args.dir.now c.args.dict nodes clients c.site_behind.result (g.F.Files.told c.args.files.now) now (rw (c.as_slice-nodes.ensures, c.root.ensures) at c.in_ok-front.ensures)
    (FindsIn-then c.args.dir.now (λ sources. modules_in sources c.args.dict nodes) (λ sources modules. site_behind c.args.dict clients modules nodes) modules c.site_behind.result (g.F.Files.told c.args.files.now) now now (rw (c.as_slice-nodes.ensures, c.root.ensures) at c.in_ok-modules.ensures.told)
    (FindsIn-pure c.args.dir.now (λ sources. behind) c.site_behind.result behind now (λ sources. refl) c.site_behind.ensures))
