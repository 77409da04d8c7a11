use Rattle.std.proofs.Common.{◌≡◌, ◌+◌, length, filter, ap, ◌∙◌, arith}
use Rattle.std.specs.Arc.{arc_value}
use Rattle.rad_sessions.specs.Parts.{is_in}
use Rattle.rad_sessions.proofs.Merging.{one_longer, part_more, all_made}
use Rattle.rad_sessions.proofs.parts.Parts.of.Goals as goal

pub loop-number-preserved : goal.loop-number-preserved
loop-number-preserved c =
    let same : c.loop-number.number ≡ 0 + length c.loop-number.parts.items = omega (arith, c.loop-number.invariant.count) in
    let is = c.in_ok-new.ensures.ok ∙ c.in_ok-part.ensures.list ∙ ap (λ n. filter (is_in n) c.args.listed.now) same in
    record {
      so_far = rw c.in_ok-push.ensures.items (part_more arc_value 0 c.loop-number.parts.items c.in_ok-new.field-0 c.args.listed.now c.loop-number.invariant.so_far is);
      count = omega (arith, ap length c.in_ok-push.ensures.items, one_longer c.loop-number.parts.items c.in_ok-new.field-0, c.loop-number.invariant.count);
      order = λ more. c.in_ok-part.ensures.order;
    }

pub invariant_of-result : goal.invariant_of-result
invariant_of-result c =
    let all : length c.loop-number.parts.items ≡ 256 = omega (arith, c.loop-number.invariant.count, c.loop-number-test.false) in
    (all_made arc_value c.loop-number.parts.items c.args.listed.now (c.loop-number.invariant.order (omega (arith, c.loop-number.invariant.count, all))) c.loop-number.invariant.so_far all).1

pub returns : goal.returns
returns c =
    let all : length c.loop-number.parts.items ≡ 256 = omega (arith, c.loop-number.invariant.count, c.loop-number-test.false) in
    (all_made arc_value c.loop-number.parts.items c.args.listed.now (c.loop-number.invariant.order (omega (arith, c.loop-number.invariant.count, all))) c.loop-number.invariant.so_far all).0
