use Rattle.std.proofs.Common.{◌≡◌, ◌+◌, List, drop, sym, ap, ◌∙◌, subst, arith}
use Rattle.rad_value.specs.declared.scope.Scope.{Scope}
use Rattle.unlang_cond.specs.declared.groups.Group.{Group}
use Rattle.unlang_cond.specs.declared.groups.Step.{Step}
use Rattle.unlang_cond.specs.Tokens.{depth_from}
use Rattle.unlang_cond.specs.Steps.{tokens_in, AreReady}
use Rattle.unlang_cond.specs.Trees.{Tree, tree_of, holds}
use Rattle.unlang_cond.specs.Machine.{run, groups_of}
use Rattle.unlang_cond.proofs.Evaluated.{run_step, finished, alone_twice}
use Rattle.unlang_cond.proofs.Ready.{one_of_ready}
use Rattle.unlang_cond.proofs.condition.Cond.holds.Goals as goal

pub advance-requires-clause-ready : goal.advance-requires-clause-ready
advance-requires-clause-ready c =
    let items = c.deref-step-items.result.now in
    let ready : AreReady items = subst AreReady (sym c.deref-step-items.ensures.value) c.self.invariant.0 in
    one_of_ready items c.loop-step.step-index c.step-item.result ready (omega arith) c.step-item.is

pub loop-step-preserved : goal.loop-step-preserved
loop-step-preserved c =
    let items = c.deref-step-items.result.now in
    record {
      so_far =
          ap (λ (r : List Group × Scope). run (tokens_in (drop (c.loop-step.step-index + 1) items)) r.0 r.1 c.args.dict.now) c.in_ok-advance.ensures.step
          ∙ sym (run_step items c.loop-step.step-index c.step-item.result (groups_of c.loop-step.groups) c.loop-step.scope c.args.dict.now (omega arith) c.step-item.is)
          ∙ c.loop-step.invariant.so_far;
      alone = alone_twice c.args.scope.now c.loop-step.scope c.advance.new.scope c.loop-step.invariant.alone c.advance.ensures.alone;
    }

pub returns-clause-holds : goal.returns-clause-holds
returns-clause-holds c =
    let items = c.deref-step-items.result.now in
    let closed : depth_from 0 (tokens_in items) ≡ 0 = ap (λ (l : List Step). depth_from 0 (tokens_in l)) c.deref-step-items.ensures.value ∙ c.self.invariant.1 in
    let tree_is : tree_of (tokens_in items) ≡ c.args.self.now = ap (λ (l : List Step). tree_of (tokens_in l)) c.deref-step-items.ensures.value ∙ c.self.view_is in
    finished c.args.dict.now items c.args.scope.now c.loop-step.scope (groups_of c.loop-step.groups) c.loop-step.step-index c.is_met.result
    (omega arith) c.loop-step.invariant.so_far closed c.is_met.ensures
    ∙ ap (λ (t : Tree). holds t c.args.scope.now c.args.dict.now) tree_is
