use Rattle.std.proofs.Common.{◌≡◌, ◌++◌, length, reverse}
use Rattle.unlang_cond.specs.Steps.{tokens_in, AreReady}
use Rattle.unlang_cond.proofs.steps.steps_of.Given as goal

abbrev pub invariant-loop-token : goal.invariant-loop-token
invariant-loop-token l = record {
  same : tokens_in l.steps.items ++ reverse l.unread.items ≡ l.fn.tokens.items;
  ready : AreReady l.steps.items;
}

abbrev pub decreases-loop-token : goal.decreases-loop-token
decreases-loop-token l = length l.unread.items
