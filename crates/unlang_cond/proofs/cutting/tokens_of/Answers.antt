use Rattle.std.proofs.Common.{◌≡◌, ◌<◌, [], length, List, ap, sym, ◌∙◌, arith, refl}
use Rattle.std.proofs.lemmas.List.{nil_from_length}
use Rattle.std.proofs.lemmas.Grind.{common_steps}
use Rattle.unlang_cond.specs.declared.atom.Token.{Token}
use Rattle.unlang_cond.specs.declared.cutting.Cut.{Cut}
use Rattle.unlang_cond.specs.Tokens.{depth_from, tokens_of, depth_after, StopsAt}
use Rattle.unlang_cond.proofs.Turns.{starts, going, stops, is_done, one_deeper, if_both}
use Rattle.unlang_cond.proofs.cutting.tokens_of.Goals as goal

pub loop-rest-init : goal.loop-rest-init
unfolding depth_from
loop-rest-init c = record {
  so_far = rw c.new-tokens.ensures.items (starts c.args.text.now c.after_blanks-rest.result.now c.args.dict.now c.after_blanks-rest.ensures.rest c.after_blanks-rest.ensures.shorter);
  nested = omega arith;
  closed = rw c.new-tokens.ensures.items refl;
}

pub loop-rest-preserved : goal.loop-rest-preserved
loop-rest-preserved c =
    let long : 0 < length c.loop-rest.rest.now = omega (arith, c.in-Ok.ensures.shorter) in
    let shorter : length c.after_blanks-rest-in-Ok.result.now < length c.loop-rest.rest.now = omega (arith, c.in-Ok.ensures.shorter) in
    record {
      so_far = rw (c.depth_after-depth.ensures.exact, c.awaits_after-awaits.ensures, c.in_ok-push-in-Ok.ensures.items)
          (going c.loop-rest.depth c.loop-rest.awaits c.loop-rest.tokens.items c.loop-rest.rest.now c.args.dict.now (tokens_of c.args.text.now c.args.dict.now)
          c.in-Ok.token c.in-Ok.after.now c.after_blanks-rest-in-Ok.result.now long c.in-Ok.ensures.exact c.after_blanks-rest-in-Ok.ensures.rest shorter c.loop-rest.invariant.so_far);
      nested = omega (arith, c.depth_after-depth.ensures.within, c.loop-rest.invariant.nested);
      closed = rw c.in_ok-push-in-Ok.ensures.items
          (one_deeper c.loop-rest.tokens.items 0 c.in-Ok.token ∙ ap (depth_after c.in-Ok.token) c.loop-rest.invariant.closed ∙ sym c.depth_after-depth.ensures.exact);
    }

pub returns-in-Err-clause-tokens : goal.returns-in-Err-clause-tokens
returns-in-Err-clause-tokens c =
    let long : 0 < length c.loop-rest.rest.now = grind (arith, common_steps) in
    if_both c.stopped.result
    (λ (cut : Cut) (same : cut.tokens.items ≡ c.loop-rest.tokens.items) (at : StopsAt c.in-Err.error cut.wrong).
    stops c.loop-rest.depth c.loop-rest.awaits c.loop-rest.tokens.items c.loop-rest.rest.now c.args.dict.now (tokens_of c.args.text.now c.args.dict.now)
    c.in-Err.error cut.wrong long c.in-Err.ensures.exact at c.loop-rest.invariant.so_far
    ∙ ap (λ (ts : List Token). (ts, cut.wrong)) (sym same))
    c.stopped.ensures.tokens c.stopped.ensures.wrong

pub returns-clause-tokens : goal.returns-clause-tokens
returns-clause-tokens c =
    let none : c.loop-rest.rest.now ≡ [] = nil_from_length c.loop-rest.rest.now (grind (arith, common_steps)) in
    rw c.wrong_at_end-wrong.ensures
    (is_done c.loop-rest.depth c.loop-rest.awaits c.loop-rest.tokens.items c.loop-rest.rest.now c.args.dict.now (tokens_of c.args.text.now c.args.dict.now) none c.loop-rest.invariant.so_far)
