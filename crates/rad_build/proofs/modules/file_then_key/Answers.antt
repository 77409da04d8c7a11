use Rattle.std.proofs.Common.{codes, refl}
use Rattle.std.proofs.lemmas.Result.{err_from_is_err_and}
use Rattle.rad_policy.specs.Policy.{Sources}
use Rattle.rad_build.specs.Items.{pair_named}
use Rattle.rad_build.specs.ModulesBlock.{users_by, files_with}
use Rattle.rad_build.proofs.Finding.{FindsIn-pure, FindsIn-stops, FindsIn-then}
use Rattle.rad_build.proofs.modules.file_then_key.Goals as goal

pub returns-in_err-users-clause-told : goal.returns-in_err-users-clause-told
returns-in_err-users-clause-told g c =
    let p = err_from_is_err_and c.from_residual.result c.from_residual.ensures.1 in
    let items = c.args.items.now in
    rw (p.1, p.2) (FindsIn-stops c.args.dir.now (λ sources. users_by c.args.file sources c.args.dict.now c.args.place.now (pair_named (codes "filename") items)) (λ (sources : Sources). files_with c.args.file c.args.dict.now c.args.place.now (pair_named (codes "key") items)) c.in_err-users.field-0.0
    (g.F.Files.told c.args.files.now) (g.F.Files.told c.users_by.new.files) c.in_err-users.ensures.told)

pub returns-clause-told : goal.returns-clause-told
returns-clause-told g c =
    let now = g.F.Files.told c.users_by.new.files in
    let items = c.args.items.now in
    let users = c.in_ok-users.users in
    let whole = files_with c.args.file c.args.dict.now c.args.place.now (pair_named (codes "key") items) users in
    FindsIn-then c.args.dir.now (λ sources. users_by c.args.file sources c.args.dict.now c.args.place.now (pair_named (codes "filename") items)) (λ (sources : Sources). files_with c.args.file c.args.dict.now c.args.place.now (pair_named (codes "key") items)) users c.files_with.result
    (g.F.Files.told c.args.files.now) now now c.in_ok-users.ensures.told
    (FindsIn-pure c.args.dir.now (λ sources. whole) c.files_with.result whole now (λ sources. refl) (rw c.pair_named.ensures at c.files_with.ensures))
