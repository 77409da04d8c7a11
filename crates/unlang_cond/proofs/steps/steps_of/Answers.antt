use Rattle.std.proofs.Common.{◌≡◌, ◌++◌, ◌∷◌, [], ◌∙◌}
use Rattle.unlang_cond.specs.Steps.{tokens_in}
use Rattle.unlang_cond.proofs.Ready.{one_ready, all_ready, all_fit, refused_in}
use Rattle.unlang_cond.proofs.steps.steps_of.Goals as goal

pub loop-token-preserved : goal.loop-token-preserved
loop-token-preserved c =
    let popped : c.loop-token.unread.items ≡ c.pop.new.self.items ++ c.in-Some.token ∷ [] = c.in-Some.ensures.items in
    record {
      same = rw c.in_ok-push-in-Ok.ensures.items
          (one_ready c.loop-token.steps.items c.loop-token.unread.items c.pop.new.self.items c.in-Some.token c.in-Ok.step popped c.in-Ok.ensures.ready ∙ c.loop-token.invariant.same);
      ready = rw c.in_ok-push-in-Ok.ensures.items (all_ready c.loop-token.steps.items c.in-Some.token c.in-Ok.step c.loop-token.invariant.ready c.in-Ok.ensures.ready);
    }

pub returns-in-Err-clause-refused : goal.returns-in-Err-clause-refused
returns-in-Err-clause-refused c =
    let popped : c.loop-token.unread.items ≡ c.pop.new.self.items ++ c.in-Some.token ∷ [] = c.in-Some.ensures.items in
    refused_in c.in-Err.error c.args.tokens.items (tokens_in c.loop-token.steps.items) c.in-Some.token c.loop-token.unread.items c.pop.new.self.items (all_fit c.loop-token.steps.items c.loop-token.invariant.ready) c.loop-token.invariant.same popped c.in-Err.ensures.refused
