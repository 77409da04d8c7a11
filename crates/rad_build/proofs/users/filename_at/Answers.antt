use Rattle.std.proofs.Common.{◌≡◌, ℕ, List, Option, Some, None, Result, codes, sym, ap}
use Rattle.mod_users.specs.declared.entry.Entry.{Entry}
use Rattle.rad_build.specs.declared.fault.BuildFault.{BuildFault}
use Rattle.rad_build.specs.Nodes.{bad_setting}
use Rattle.rad_build.specs.ModulesBlock.{users_at, filename_at}
use Rattle.rad_build.proofs.Finding.{FindsIn-pure, FindsIn-same}
use Rattle.rad_build.proofs.users.filename_at.Goals as goal

pub returns-in_default-clause-told : goal.returns-in_default-clause-told
unfolding filename_at
returns-in_default-clause-told g c =
    let node = c.args.node.now in
    FindsIn-pure c.args.dir.now (λ sources. filename_at c.args.file sources c.args.dict.now node) c.refuse_setting.result (bad_setting node.place (codes "filename")) (g.F.Files.told c.args.files.now)
    (λ sources. ap (λ (s : Option (List ℕ × List ℕ)). elim s as (λ _. Result (List Entry) BuildFault) [ None ↦ bad_setting node.place (codes "filename") | Some setting ↦ users_at c.args.file sources c.args.dict.now node.place setting.1 ]) (sym c.in_default.ensures))
    c.refuse_setting.ensures

pub returns-clause-told : goal.returns-clause-told
unfolding filename_at
returns-clause-told g c =
    let node = c.args.node.now in
    FindsIn-same c.args.dir.now (λ sources. users_at c.args.file sources c.args.dict.now node.place c.in-Some.value.now) (λ sources. filename_at c.args.file sources c.args.dict.now node) c.users_at.result (g.F.Files.told c.args.files.now) (g.F.Files.told c.users_at.new.files)
    (λ sources. ap (λ (s : Option (List ℕ × List ℕ)). elim s as (λ _. Result (List Entry) BuildFault) [ None ↦ bad_setting node.place (codes "filename") | Some setting ↦ users_at c.args.file sources c.args.dict.now node.place setting.1 ]) c.in-Some.ensures)
    c.users_at.ensures.told
