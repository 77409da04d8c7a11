use Rattle.std.proofs.Common.{◌≤◌, length, sym, subst, arith}
use Rattle.rad_value.specs.PairLists.{list_of}
use Rattle.mod_filter.proofs.Sifting.{IsShorter, ends, removed}
use Rattle.mod_filter.proofs.sieve.sift.Goals as goal

pub loop-n-smaller : goal.loop-n-smaller
loop-n-smaller g c =
    let loop = c.loop-n in
    let shorter = removed (g.S.Sieve.keeps c.args.sieve.now) c.args.list c.args.lists.now loop.lists c.remove_at.new.lists loop.n c.in_ok-stays_at.field-0 c.in_ok-stays_at.ensures c.if-branch.false loop.invariant c.in_ok-remove_at.ensures in
    omega (arith, shorter.less, c.loop-n-test.true, c.len.ensures.length)

pub loop-n-preserved : goal.loop-n-preserved
loop-n-preserved g c =
    let loop = c.loop-n in
    let shorter = removed (g.S.Sieve.keeps c.args.sieve.now) c.args.list c.args.lists.now loop.lists c.remove_at.new.lists loop.n c.in_ok-stays_at.field-0 c.in_ok-stays_at.ensures c.if-branch.false loop.invariant c.in_ok-remove_at.ensures in
    shorter.still

pub returns : goal.returns
returns g c =
    let loop = c.loop-n in
    let past : length (list_of loop.lists c.args.list) ≤ loop.n = omega (arith, c.loop-n-test.false, c.len.ensures.length) in
    ends (g.S.Sieve.keeps c.args.sieve.now) c.args.list c.args.lists.now loop.lists loop.n loop.invariant past
