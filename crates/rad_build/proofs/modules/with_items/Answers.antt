use Rattle.std.proofs.Common.{arith}
use Rattle.std.proofs.lemmas.Result.{err_from_is_err_and}
use Rattle.rad_policy.specs.Policy.{Sources}
use Rattle.rad_build.specs.ModulesBlock.{with_module}
use Rattle.rad_build.proofs.FileTurns.{goes_on, stops, ends}
use Rattle.rad_build.proofs.modules.with_items.Goals as goal

pub returns-in_err-known-clause-told : goal.returns-in_err-known-clause-told
returns-in_err-known-clause-told g c =
    let loop = c.loop-item in
    let p = err_from_is_err_and c.from_residual.result c.from_residual.ensures.1 in
    rw (p.1, p.2) (stops c.args.dir.now (λ (sources : Sources). with_module sources c.args.dict.now) c.args.known loop.known c.args.items.now loop.item-index c.item-item.result c.in_err-known.field-0.0
    (g.F.Files.told c.args.files.now) (g.F.Files.told loop.files) (g.F.Files.told c.with_module.new.files) c.loop-item-test.true c.item-item.is loop.invariant.read c.in_err-known.ensures.told)

pub loop-item-preserved : goal.loop-item-preserved
loop-item-preserved g c =
    let loop = c.loop-item in record {
      read = goes_on c.args.dir.now (λ (sources : Sources). with_module sources c.args.dict.now) c.args.known loop.known c.in_ok-known.known c.args.items.now loop.item-index c.item-item.result
          (g.F.Files.told c.args.files.now) (g.F.Files.told loop.files) (g.F.Files.told c.with_module.new.files) c.loop-item-test.true c.item-item.is loop.invariant.read c.in_ok-known.ensures.told;
      later = omega (arith, loop.invariant.later, c.in_ok-known.ensures.faults.later);
    }

pub returns-clause-told : goal.returns-clause-told
returns-clause-told g c =
    let loop = c.loop-item in
    ends c.args.dir.now (λ (sources : Sources). with_module sources c.args.dict.now) c.args.known loop.known c.args.items.now loop.item-index (g.F.Files.told c.args.files.now) (g.F.Files.told loop.files) c.loop-item-test.false loop.invariant.read
