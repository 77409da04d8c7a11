use Rattle.std.proofs.Common.{◌≡◌, ◌+◌, ◌≤◌, length}
use Rattle.unlang_cond.specs.Tokens.{depth_from, tokens_of}
use Rattle.unlang_cond.proofs.Turns.{Enough}
use Rattle.unlang_cond.proofs.cutting.tokens_of.Given as goal

abbrev pub invariant-loop-rest : goal.invariant-loop-rest
invariant-loop-rest l = record {
  so_far : Enough l.depth l.awaits l.tokens.items l.rest l.dict (tokens_of l.text l.dict);
  nested : l.depth + length l.rest ≤ length l.text;
  closed : depth_from 0 l.tokens.items ≡ l.depth;
}

abbrev pub decreases-loop-rest : goal.decreases-loop-rest
decreases-loop-rest l = length l.rest
