use Rattle.std.proofs.Common.{◌≡◌, ◌∷◌, [], drop}
use Rattle.unlang_cond.specs.Steps.{tokens_in}
use Rattle.unlang_cond.specs.Tests.{OnlyCaptures}
use Rattle.unlang_cond.specs.Machine.{run, groups_of, fresh_group}
use Rattle.unlang_cond.proofs.condition.Cond.holds.Given as goal

abbrev pub invariant-loop-step : goal.invariant-loop-step
invariant-loop-step l = record {
  so_far : run (tokens_in (drop l.step-index l.step-items)) (groups_of l.groups) l.scope l.dict ≡ run (tokens_in l.step-items) (fresh_group ∷ []) l.fn.scope l.dict;
  alone : OnlyCaptures l.fn.scope l.scope;
}
