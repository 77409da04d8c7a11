use Rattle.std.proofs.Common.{length, sym, ◌∙◌, arith}
use Rattle.unlang_xlat.specs.Reading.{braced, parts_in}
use Rattle.unlang_xlat.proofs.Levels.{no_level, first_side, named_side}
use Rattle.unlang_xlat.proofs.Turns.{starts, goes_on_at}
use Rattle.unlang_xlat.proofs.reading.+reading.Goals as goal

pub braced-returns-then-levels-eq0-clause-exact : goal.braced-returns-then-levels-eq0-clause-exact
braced-returns-then-levels-eq0-clause-exact t c = no_level c.args.dict.now c.args.levels c.args.text.now (omega (arith, c.if-levels-eq0.true))

pub braced-returns-then-begins_part-clause-exact : goal.braced-returns-then-begins_part-clause-exact
braced-returns-then-begins_part-clause-exact t c =
    rw (first_side c.args.dict.now c.args.levels c.args.text.now c.behind_brace-body.result.now (omega (arith, c.if-levels-eq0.false)) c.behind_brace-body.ensures.rest (sym c.begins_part.ensures ∙ c.if-begins_part.true))
    c.alternative_at.ensures.exact

pub braced-returns-else-begins_part-clause-exact : goal.braced-returns-else-begins_part-clause-exact
braced-returns-else-begins_part-clause-exact t c =
    rw (named_side c.args.dict.now c.args.levels c.args.text.now c.behind_brace-body.result.now (omega (arith, c.if-levels-eq0.false)) c.behind_brace-body.ensures.rest (sym c.begins_part.ensures ∙ c.if-begins_part.false))
    c.named_at.ensures.exact

pub parts_in-loop-octet-init : goal.parts_in-loop-octet-init
parts_in-loop-octet-init t c = record {
  parts = rw c.new-parts.ensures (starts (braced c.args.dict.now c.args.levels) c.args.outer c.args.text.now);
  shorter = omega arith;
}

pub parts_in-loop-octet-preserved : goal.parts_in-loop-octet-preserved
parts_in-loop-octet-preserved t c =
    let dict = c.args.dict.now in
    let total = parts_in (braced dict c.args.levels) c.args.outer (length c.args.text.now) c.args.text.now in
    record {
      parts = rw c.in_ok-push.ensures.ok
          (goes_on_at (braced dict c.args.levels) c.args.outer c.loop-octet.parts c.loop-octet.rest.now c.in-Some.octet.now c.in-Some.after.now total c.in_ok-part.part c.in_ok-part.more.now
          c.in-Some.ensures.cases.0 (sym c.closes.ensures ∙ c.if-closes.false) (rw c.is_some.ensures at c.in_ok-part.ensures.exact) c.in_ok-part.ensures.shorter c.loop-octet.invariant.parts);
      shorter = omega (arith, c.in_ok-part.ensures.shorter, c.loop-octet.invariant.shorter);
    }
