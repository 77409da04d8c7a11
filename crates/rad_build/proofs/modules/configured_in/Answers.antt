use Rattle.std.proofs.Common.{arith}
use Rattle.std.proofs.lemmas.Result.{err_from_is_err_and}
use Rattle.rad_policy.specs.Policy.{Sources}
use Rattle.rad_build.specs.ModulesBlock.{with_modules}
use Rattle.rad_build.proofs.FileTurns.{goes_on, stops, ends}
use Rattle.rad_build.proofs.modules.configured_in.Goals as goal

pub returns-in_err-known-clause-told : goal.returns-in_err-known-clause-told
returns-in_err-known-clause-told g c =
    let loop = c.loop-node in
    let p = err_from_is_err_and c.from_residual.result c.from_residual.ensures.1 in
    rw (p.1, p.2) (stops c.args.dir.now (λ (sources : Sources). with_modules sources c.args.dict.now) c.args.known loop.known c.args.nodes.now loop.node-index c.node-item.result c.in_err-known.field-0.0
    (g.F.Files.told c.args.files.now) (g.F.Files.told loop.files) (g.F.Files.told c.with_modules.new.files) c.loop-node-test.true c.node-item.is loop.invariant.read c.in_err-known.ensures.told)

pub loop-node-preserved : goal.loop-node-preserved
loop-node-preserved g c =
    let loop = c.loop-node in record {
      read = goes_on c.args.dir.now (λ (sources : Sources). with_modules sources c.args.dict.now) c.args.known loop.known c.in_ok-known.known c.args.nodes.now loop.node-index c.node-item.result
          (g.F.Files.told c.args.files.now) (g.F.Files.told loop.files) (g.F.Files.told c.with_modules.new.files) c.loop-node-test.true c.node-item.is loop.invariant.read c.in_ok-known.ensures.told;
      later = omega (arith, loop.invariant.later, c.in_ok-known.ensures.faults.later);
    }

pub returns-clause-told : goal.returns-clause-told
returns-clause-told g c =
    let loop = c.loop-node in
    ends c.args.dir.now (λ (sources : Sources). with_modules sources c.args.dict.now) c.args.known loop.known c.args.nodes.now loop.node-index (g.F.Files.told c.args.files.now) (g.F.Files.told loop.files) c.loop-node-test.false loop.invariant.read
