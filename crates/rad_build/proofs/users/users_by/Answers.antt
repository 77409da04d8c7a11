use Rattle.std.proofs.Common.{codes, sym, ap}
use Rattle.rad_build.specs.Nodes.{bad_setting}
use Rattle.rad_build.specs.Items.{pair_named}
use Rattle.rad_build.specs.ModulesBlock.{filename_at, users_by}
use Rattle.rad_build.proofs.Finding.{FindsIn-pure, FindsIn-same}
use Rattle.rad_build.proofs.users.users_by.Goals as goal

pub returns-in-None-clause-told : goal.returns-in-None-clause-told
unfolding users_by
returns-in-None-clause-told g c =
    let place = c.args.place.now in
    FindsIn-pure c.args.dir.now (λ sources. users_by c.args.file sources c.args.dict.now place (pair_named (codes "filename") c.args.items.now)) c.refuse_setting.result (bad_setting place (codes "filename")) (g.F.Files.told c.args.files.now)
    (λ sources. ap (users_by c.args.file sources c.args.dict.now place) (sym c.in-None.ensures)) c.refuse_setting.ensures

pub returns-in-Some-clause-told : goal.returns-in-Some-clause-told
unfolding users_by
returns-in-Some-clause-told g c =
    let place = c.args.place.now in
    FindsIn-same c.args.dir.now (λ sources. filename_at c.args.file sources c.args.dict.now c.in-Some.node.now) (λ sources. users_by c.args.file sources c.args.dict.now place (pair_named (codes "filename") c.args.items.now)) c.filename_at.result (g.F.Files.told c.args.files.now) (g.F.Files.told c.filename_at.new.files)
    (λ sources. ap (users_by c.args.file sources c.args.dict.now place) c.in-Some.ensures) c.filename_at.ensures.told
