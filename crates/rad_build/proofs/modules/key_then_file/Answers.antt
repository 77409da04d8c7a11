use Rattle.std.proofs.Common.{List, Result, Ok, Err, codes, refl}
use Rattle.std.proofs.lemmas.Result.{err_from_is_err_and}
use Rattle.rad_policy.specs.Policy.{Sources}
use Rattle.unlang_xlat.specs.declared.part.Part.{Part}
use Rattle.mod_users.specs.declared.entry.Entry.{Entry}
use Rattle.rad_build.specs.declared.fault.BuildFault.{BuildFault}
use Rattle.rad_modules.specs.declared.site_module.SiteModule.{SiteModule}
use Rattle.rad_build.specs.Nodes.{◌>>=◌}
use Rattle.rad_build.specs.Items.{pair_named}
use Rattle.rad_build.specs.ModulesBlock.{entries_module, users_by, key_by}
use Rattle.rad_build.proofs.Finding.{FindsIn-pure, FindsIn-stops, FindsIn-then}
use Rattle.rad_build.proofs.modules.key_then_file.Goals as goal

pub returns-in_err-key-clause-told : goal.returns-in_err-key-clause-told
returns-in_err-key-clause-told g c =
    let p = err_from_is_err_and c.from_residual.result c.from_residual.ensures.1 in
    let items = c.args.items.now in
    let e = c.in_err-key.field-0.0 in
    let first = key_by c.args.file c.args.dict.now c.args.place.now (pair_named (codes "key") items) in
    let told = g.F.Files.told c.args.files.now in
    let behind : Sources → List Part → Result SiteModule BuildFault = λ sources key. users_by c.args.file sources c.args.dict.now c.args.place.now (pair_named (codes "filename") items) >>= λ users. Ok (entries_module c.args.file users key) in
    rw (p.1, p.2) (FindsIn-stops c.args.dir.now (λ sources. first) behind e told told
    (FindsIn-pure c.args.dir.now (λ sources. first) (Err e) first told (λ sources. refl) (rw c.pair_named.ensures at c.in_err-key.ensures)))

pub returns-in_err-users-clause-told : goal.returns-in_err-users-clause-told
returns-in_err-users-clause-told g c =
    let p = err_from_is_err_and c.from_residual-in_err-users.result c.from_residual-in_err-users.ensures.1 in
    let items = c.args.items.now in
    let e = c.in_err-users.field-0.0 in
    let key = c.in_ok-key.key in
    let first = key_by c.args.file c.args.dict.now c.args.place.now (pair_named (codes "key") items) in
    let told = g.F.Files.told c.args.files.now in
    let now = g.F.Files.told c.users_by.new.files in
    let then_users : Sources → Result (List Entry) BuildFault = λ sources. users_by c.args.file sources c.args.dict.now c.args.place.now (pair_named (codes "filename") items) in
    let last : List Part → Sources → List Entry → Result SiteModule BuildFault = λ k sources users. Ok (entries_module c.args.file users k) in
    rw (p.1, p.2) (FindsIn-then c.args.dir.now (λ sources. first) (λ sources k. then_users sources >>= last k sources) key (Err e) told told now
    (FindsIn-pure c.args.dir.now (λ sources. first) (Ok key) first told (λ sources. refl) (rw c.pair_named.ensures at c.in_ok-key.ensures))
    (FindsIn-stops c.args.dir.now then_users (last key) e told now c.in_err-users.ensures.told))

pub returns-clause-told : goal.returns-clause-told
returns-clause-told g c =
    let items = c.args.items.now in
    let key = c.in_ok-key.key in
    let users = c.in_ok-users.users in
    let whole : Result SiteModule BuildFault = Ok (entries_module c.args.file users key) in
    let first = key_by c.args.file c.args.dict.now c.args.place.now (pair_named (codes "key") items) in
    let told = g.F.Files.told c.args.files.now in
    let now = g.F.Files.told c.users_by.new.files in
    let then_users : Sources → Result (List Entry) BuildFault = λ sources. users_by c.args.file sources c.args.dict.now c.args.place.now (pair_named (codes "filename") items) in
    let last : List Part → Sources → List Entry → Result SiteModule BuildFault = λ k sources us. Ok (entries_module c.args.file us k) in
    rw c.entries_module.ensures
    (FindsIn-then c.args.dir.now (λ sources. first) (λ sources k. then_users sources >>= last k sources) key whole told told now
    (FindsIn-pure c.args.dir.now (λ sources. first) (Ok key) first told (λ sources. refl) (rw c.pair_named.ensures at c.in_ok-key.ensures))
    (FindsIn-then c.args.dir.now then_users (last key) users whole told now now c.in_ok-users.ensures.told
    (FindsIn-pure c.args.dir.now (λ sources. whole) whole whole now (λ sources. refl) refl)))
