use Rattle.std.proofs.Common.{Ok, Err, refl, sym, ap, subst}
use Rattle.std.proofs.lemmas.Result.{err_from_is_err_and}
use Rattle.rad_policy.specs.Policy.{Sources}
use Rattle.rad_build.specs.Nodes.{after_each}
use Rattle.rad_build.specs.Sources.{FindsIn}
use Rattle.rad_build.specs.Modules.{Modules, no_modules, with_codes}
use Rattle.rad_build.specs.ModulesBlock.{with_modules, modules_over}
use Rattle.rad_build.proofs.Finding.{FindsIn-pure, FindsIn-stops, FindsIn-then}
use Rattle.rad_build.proofs.modules.modules_over.Goals as goal

pub returns-in_err-known-clause-told : goal.returns-in_err-known-clause-told
unfolding modules_over
returns-in_err-known-clause-told g c =
    let p = err_from_is_err_and c.from_residual.result c.from_residual.ensures.1 in
    let first = subst (λ (none : Modules). FindsIn c.args.dir.now (λ sources. after_each (with_modules sources c.args.dict.now) none c.args.nodes.now) (Err c.in_err-known.field-0.0) (g.F.Files.told c.args.files.now) (g.F.Files.told c.configured_in.new.files)) c.new-none.ensures c.in_err-known.ensures.told in
    rw (p.1, p.2) (FindsIn-stops c.args.dir.now (λ sources. after_each (with_modules sources c.args.dict.now) (no_modules c.args.realms.value) c.args.nodes.now) (λ (sources : Sources) (known : Modules). Ok (with_codes known)) c.in_err-known.field-0.0
    (g.F.Files.told c.args.files.now) (g.F.Files.told c.configured_in.new.files) first)

pub returns-clause-told : goal.returns-clause-told
unfolding modules_over
returns-clause-told g c =
    let now = g.F.Files.told c.configured_in.new.files in
    let known = c.in_ok-known.known in
    let modules = c.in_ok-modules.modules in
    let first = subst (λ (none : Modules). FindsIn c.args.dir.now (λ sources. after_each (with_modules sources c.args.dict.now) none c.args.nodes.now) (Ok known) (g.F.Files.told c.args.files.now) now) c.new-none.ensures c.in_ok-known.ensures.told in
    FindsIn-then c.args.dir.now (λ sources. after_each (with_modules sources c.args.dict.now) (no_modules c.args.realms.value) c.args.nodes.now) (λ (sources : Sources) (known : Modules). Ok (with_codes known)) known (Ok modules)
    (g.F.Files.told c.args.files.now) now now first
    (FindsIn-pure c.args.dir.now (λ (sources : Sources). Ok (with_codes known)) (Ok modules) (Ok (with_codes known)) now (λ sources. refl) (ap (λ (m : Modules). Ok m) (sym c.in_ok-modules.ensures)))
