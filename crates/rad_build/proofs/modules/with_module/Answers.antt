use Rattle.std.proofs.Common.{ℕ, List, Option, Some, None, Result, Ok, refl, sym, ap}
use Rattle.rad_conf.specs.declared.tree.Node.{Node}
use Rattle.rad_build.specs.declared.fault.BuildFault.{BuildFault}
use Rattle.rad_build.specs.Modules.{Modules}
use Rattle.rad_build.specs.ModulesBlock.{with_instance, with_module}
use Rattle.rad_build.proofs.Finding.{FindsIn-pure, FindsIn-same}
use Rattle.rad_build.proofs.modules.with_module.Goals as goal

pub returns-in_default-clause-told : goal.returns-in_default-clause-told
unfolding with_module
returns-in_default-clause-told g c =
    let node = c.args.node.now in
    FindsIn-pure c.args.dir.now (λ sources. with_module sources c.args.dict.now c.args.known node) (Ok c.args.known) (Ok c.args.known) (g.F.Files.told c.args.files.now)
    (λ sources. ap (λ (b : Option (List ℕ × List ℕ × List Node)). elim b as (λ _. Result Modules BuildFault) [ None ↦ Ok c.args.known | Some block ↦ with_instance sources c.args.dict.now c.args.known node.place block.0 block.1 block.2 ]) (sym c.in_default.ensures)) refl

pub returns-clause-told : goal.returns-clause-told
unfolding with_module
returns-clause-told g c =
    let node = c.args.node.now in
    FindsIn-same c.args.dir.now (λ sources. with_instance sources c.args.dict.now c.args.known node.place c.in-Some.kind.now c.in-Some.name.now c.in-Some.items.now) (λ sources. with_module sources c.args.dict.now c.args.known node) c.with_instance.result (g.F.Files.told c.args.files.now) (g.F.Files.told c.with_instance.new.files)
    (λ sources. ap (λ (b : Option (List ℕ × List ℕ × List Node)). elim b as (λ _. Result Modules BuildFault) [ None ↦ Ok c.args.known | Some block ↦ with_instance sources c.args.dict.now c.args.known node.place block.0 block.1 block.2 ]) c.in-Some.ensures) c.with_instance.ensures.told
