use Rattle.std.specs.Prelude.{IfOk}
use Rattle.std.specs.Option.{option_copied}
use Rattle.unlang_code.specs.Choosing.{taken_of}
use Rattle.unlang_code.specs.Serving.{AreServed}
use Rattle.unlang_code.proofs.Asking.{captures_keep_time, taken_is_so}
use Rattle.unlang_code.proofs.Taking.{taken_reaches, taken_stops, untaken_reaches, question_stops}
use Rattle.std.proofs.Common.{rules, ◌≤◌, ◌≡◌, ◌++◌, None, OnErr, ◌+◌, length, List}
use Rattle.std.specs.List.{AllByRecursion}
use Rattle.mod_base.specs.Reaching.{Reaches, Stops}
use Rattle.unlang_tree.specs.EachCall.{calls_in, calls_in_kind, calls_of}
use Rattle.unlang_code.specs.Run.{kind_done, run_of, rotated}
use Rattle.unlang_code.specs.Progressing.{done_in, ends_as}
use Rattle.unlang_code.specs.Serving.{IsServed}
use Rattle.unlang_tree.proofs.CallsWithin.{calls_of_group, calls_of_if}
use Rattle.unlang_tree.specs.declared.statement.Call.{Call}
use Rattle.unlang_code.proofs.Served.{each_at, each_arm, each_below, size_of_block, size_of_if, halves, most_halves}
use Rattle.unlang_tree.proofs.statement.StatementKind.TheLaws as kind
use denote.Param.Weighed.{at_most, most}
use Rattle.unlang_tree.proofs.statement.Statement.TheLaws as one
use Rattle.unlang_tree.proofs.statement.Arm.TheLaws as arm
use Rattle.unlang_tree.specs.declared.statement.Arm.{Arm, out-Arm}
use Rattle.unlang_code.specs.Run.{if_done}
use Rattle.std.proofs.Common.{arith, take, drop, sym, ap, subst, ◌∙◌}
use Rattle.mod_base.proofs.Reached.{reaches_start, reaches_joined, reaches_then, reaches_as}
use Rattle.unlang_tree.specs.declared.statement.Statement.{Statement}
use Rattle.unlang_code.specs.declared.progress.Ended.{Ended}
use Rattle.unlang_code.specs.Run.{Piece, returned, IsUpdate}
use Rattle.unlang_tree.specs.declared.update.Line.{Line}
use Rattle.unlang_code.proofs.Pieces.{finished, ends_is}
use Rattle.unlang_code.specs.declared.progress.Progress.{Progress}
use Rattle.unlang_code.specs.declared.progress.Progress.TheVariants.{Going, Over}
use Rattle.unlang_code.proofs.Balancing.{first_stops, first_done, others_stop, picked_within, none_done, ordered, balanced_done, balanced_stops, reaches_at}
use Rattle.unlang_code.proofs.Trees.{by_kind, by_call, by_return, by_update, by_group, by_if}
use Rattle.unlang_code.proofs.Running.{on_err, if_err, if_ok, update_reaches, update_stops}
use Rattle.unlang_code.proofs.Stepping.{left, from_here, goes_on_here, ends_here, stops_here, ends_behind}
use Rattle.std.proofs.Common.{Some}
use Rattle.mod_base.specs.Situation.{Situation}
use Rattle.rad_tables.specs.declared.group_kind.GroupKind.{GroupKind}
use Rattle.unlang_code.specs.Run.{picked_of}
use Rattle.unlang_code.proofs.run.+running.Goals.{run_balanced-in-Plain+in_ok-so_far-in-Plain, run_balanced-in-Redundant+in_ok-so_far-in-Redundant}
use Rattle.unlang_code.proofs.run.+running.Goals as goal

pub run_around-run_members-requires : goal.run_around-run_members-requires
run_around-run_members-requires g t c κs within =
    let parts = halves (IsServed g.M.Module.meaning c.args.stack.now c.args.section) c.args.place c.args.statements.now c.requires.served in
    let shorter = most_halves one.the_size c.args.place c.args.statements.now in
    let from : most one.the_size c.split_at.result.1.now ≡ most one.the_size (drop c.args.place c.args.statements.now) = ap (most one.the_size) c.split_at.ensures.back in
    (omega (arith, c.decreases, shorter.1, from), (search rules, (search rules, (search rules, (subst (λ statements. AllByRecursion (IsServed g.M.Module.meaning c.args.stack.now c.args.section) (calls_of statements)) (sym c.split_at.ensures.back) parts.1, (c.requires.in_time, c.requires.changes))))))

pub run_around-run_members-requires-in-Going : goal.run_around-run_members-requires-in-Going
run_around-run_members-requires-in-Going g t c κs within =
    let parts = halves (IsServed g.M.Module.meaning c.args.stack.now c.args.section) c.args.place c.args.statements.now c.requires.served in
    let shorter = most_halves one.the_size c.args.place c.args.statements.now in
    let before : most one.the_size c.split_at.result.0.now ≡ most one.the_size (take c.args.place c.args.statements.now) = ap (most one.the_size) c.split_at.ensures.front in
    (omega (arith, c.decreases, shorter.0, before), (search rules, (search rules, (search rules, (subst (λ statements. AllByRecursion (IsServed g.M.Module.meaning c.args.stack.now c.args.section) (calls_of statements)) (sym c.split_at.ensures.front) parts.0, (c.in_ok-so_far.ensures.in_time, search rules))))))

pub run_around-returns-in_err-so_far-clause-memory :
    goal.run_around-returns-in_err-so_far-clause-memory
run_around-returns-in_err-so_far-clause-memory g t c =
    let all = c.args.statements.now in
    let from = c.split_at.result.1.now in
    let before = c.split_at.result.0.now in
    let round : from ++ before ≡ rotated c.args.place all = ap (λ (b : List Statement). from ++ b) c.split_at.ensures.front ∙ ap (λ (f : List Statement). f ++ take c.args.place all) c.split_at.ensures.back in
    let Stopped : List Statement → Type 0 = λ (run : List Statement). Stops c.args.scope.now (g.W.World.state c.args.world.now) (λ s. (run_of g.M.Module.meaning c.args.stack.now c.args.dict.now c.args.section c.args.kind run s).situation.effects) (g.W.World.state c.run_members.new.world) in
    on_err c.from_residual.result (subst Stopped round (first_stops g.M.Module.meaning c.args.stack.now c.args.dict.now c.args.section c.args.kind None from before c.args.scope.now c.run_members.new.scope (g.W.World.state c.args.world.now) (g.W.World.state c.run_members.new.world) g.met.M.Module.lawful c.in_err-so_far.ensures.memory))

pub run_around-returns-in-Going-clause-ok : goal.run_around-returns-in-Going-clause-ok
run_around-returns-in-Going-clause-ok g t c =
    let all = c.args.statements.now in
    let from = c.split_at.result.1.now in
    let before = c.split_at.result.0.now in
    let round : from ++ before ≡ rotated c.args.place all = ap (λ (b : List Statement). from ++ b) c.split_at.ensures.front ∙ ap (λ (f : List Statement). f ++ take c.args.place all) c.split_at.ensures.back in
    let First : Progress → Type 0 = λ (p : Progress). Reaches c.args.scope.now (g.W.World.state c.args.world.now) (left g.M.Module.meaning c.args.stack.now c.args.dict.now c.args.section c.args.kind None from) c.run_members.new.scope (g.W.World.state c.run_members.new.world) (λ s. (s, p)) in
    let first = subst First c.in-Going.is c.in_ok-so_far.ensures.ok in
    if_ok c.run_members-in-Going.result
    (λ value reached. subst (λ (run : List Statement). Reaches c.args.scope.now (g.W.World.state c.args.world.now) (left g.M.Module.meaning c.args.stack.now c.args.dict.now c.args.section c.args.kind None run) c.run_members-in-Going.new.scope (g.W.World.state c.run_members-in-Going.new.world) (λ s. (s, value))) round
    (reaches_joined c.args.scope.now c.run_members.new.scope c.run_members-in-Going.new.scope (g.W.World.state c.args.world.now) (g.W.World.state c.run_members.new.world) (g.W.World.state c.run_members-in-Going.new.world) (left g.M.Module.meaning c.args.stack.now c.args.dict.now c.args.section c.args.kind None (from ++ before)) (left g.M.Module.meaning c.args.stack.now c.args.dict.now c.args.section c.args.kind c.in-Going.leading before) (λ s. (s, value)) (first_done g.M.Module.meaning c.args.stack.now c.args.dict.now c.args.section c.args.kind None from before c.args.scope.now c.run_members.new.scope (g.W.World.state c.args.world.now) (g.W.World.state c.run_members.new.world) (Going c.in-Going.leading) first) reached))
    c.run_members-in-Going.ensures.ok

pub run_around-returns-in-Going-clause-memory : goal.run_around-returns-in-Going-clause-memory
run_around-returns-in-Going-clause-memory g t c =
    let all = c.args.statements.now in
    let from = c.split_at.result.1.now in
    let before = c.split_at.result.0.now in
    let round : from ++ before ≡ rotated c.args.place all = ap (λ (b : List Statement). from ++ b) c.split_at.ensures.front ∙ ap (λ (f : List Statement). f ++ take c.args.place all) c.split_at.ensures.back in
    let First : Progress → Type 0 = λ (p : Progress). Reaches c.args.scope.now (g.W.World.state c.args.world.now) (left g.M.Module.meaning c.args.stack.now c.args.dict.now c.args.section c.args.kind None from) c.run_members.new.scope (g.W.World.state c.run_members.new.world) (λ s. (s, p)) in
    let Stopped : List Statement → Type 0 = λ (run : List Statement). Stops c.args.scope.now (g.W.World.state c.args.world.now) (λ s. (run_of g.M.Module.meaning c.args.stack.now c.args.dict.now c.args.section c.args.kind run s).situation.effects) (g.W.World.state c.run_members-in-Going.new.world) in
    let first = subst First c.in-Going.is c.in_ok-so_far.ensures.ok in
    if_err c.run_members-in-Going.result (λ stopped. subst Stopped round (others_stop g.M.Module.meaning c.args.stack.now c.args.dict.now c.args.section c.args.kind None from before c.args.scope.now c.run_members.new.scope (g.W.World.state c.args.world.now) (g.W.World.state c.run_members.new.world) (g.W.World.state c.run_members-in-Going.new.world) c.in-Going.leading first stopped)) c.run_members-in-Going.ensures.memory

pub run_around-returns-in-Over-clause-ok : goal.run_around-returns-in-Over-clause-ok
run_around-returns-in-Over-clause-ok g t c =
    let all = c.args.statements.now in
    let from = c.split_at.result.1.now in
    let before = c.split_at.result.0.now in
    let round : from ++ before ≡ rotated c.args.place all = ap (λ (b : List Statement). from ++ b) c.split_at.ensures.front ∙ ap (λ (f : List Statement). f ++ take c.args.place all) c.split_at.ensures.back in
    let First : Progress → Type 0 = λ (p : Progress). Reaches c.args.scope.now (g.W.World.state c.args.world.now) (left g.M.Module.meaning c.args.stack.now c.args.dict.now c.args.section c.args.kind None from) c.run_members.new.scope (g.W.World.state c.run_members.new.world) (λ s. (s, p)) in
    let first = subst First c.in-Over.is c.in_ok-so_far.ensures.ok in
    subst (λ (run : List Statement). Reaches c.args.scope.now (g.W.World.state c.args.world.now) (left g.M.Module.meaning c.args.stack.now c.args.dict.now c.args.section c.args.kind None run) c.run_members.new.scope (g.W.World.state c.run_members.new.world) (λ s. (s, Over c.in-Over.ended))) round (first_done g.M.Module.meaning c.args.stack.now c.args.dict.now c.args.section c.args.kind None from before c.args.scope.now c.run_members.new.scope (g.W.World.state c.args.world.now) (g.W.World.state c.run_members.new.world) (Over c.in-Over.ended) first)

pub run_balanced-returns-in_default-clause-ok : goal.run_balanced-returns-in_default-clause-ok
run_balanced-returns-in_default-clause-ok g t c = none_done g.M.Module.meaning c.args.stack.now c.args.dict.now c.args.section c.args.kind c.args.statements.now c.args.scope.now c.args.scope.now (g.W.World.state c.args.world.now) (g.W.World.state c.args.world.now) c.end_of.result (sym c.in_default.is ∙ c.picked.ensures) c.end_of.ensures

pub run_balanced-run_members-requires : goal.run_balanced-run_members-requires
run_balanced-run_members-requires g t c κs within =
    let all = c.args.statements.now in
    let place = c.in-Some.place in
    let one_is = c.split_at-in-Plain.ensures.front ∙ ap (take 1) c.split_at.ensures.back in
    let behind = halves (IsServed g.M.Module.meaning c.args.stack.now c.args.section) place all c.requires.served in
    let first = halves (IsServed g.M.Module.meaning c.args.stack.now c.args.section) 1 (drop place all) behind.1 in
    let shorter = most_halves one.the_size place all in
    let shortest = most_halves one.the_size 1 (drop place all) in
    let size : most one.the_size c.split_at-in-Plain.result.0.now ≡ most one.the_size (take 1 (drop place all)) = ap (most one.the_size) one_is in
    (omega (arith, c.decreases, shorter.1, shortest.0, size), (search rules, (search rules, (search rules, (subst (λ statements. AllByRecursion (IsServed g.M.Module.meaning c.args.stack.now c.args.section) (calls_of statements)) (sym one_is) first.0, (c.requires.in_time, c.requires.changes))))))

pub run_balanced-returns-in_err-so_far-in-Plain-clause-memory :
    goal.run_balanced-returns-in_err-so_far-in-Plain-clause-memory
run_balanced-returns-in_err-so_far-in-Plain-clause-memory g t c =
    let all = c.args.statements.now in
    let place = c.in-Some.place in
    let is : Some place ≡ picked_of c.args.scope.now (length all) = sym c.in-Some.is ∙ c.picked.ensures in
    let runs : ordered c.args.kind place all ≡ c.split_at-in-Plain.result.0.now = ap (λ (k : GroupKind). ordered k place all) c.in-Plain.is ∙ sym (c.split_at-in-Plain.ensures.front ∙ ap (take 1) c.split_at.ensures.back) in
    let Stopped : List Statement → Type 0 = λ (run : List Statement). Stops c.args.scope.now (g.W.World.state c.args.world.now) (λ s. (run_of g.M.Module.meaning c.args.stack.now c.args.dict.now c.args.section c.args.kind run s).situation.effects) (g.W.World.state c.run_members.new.world) in
    on_err c.from_residual.result (balanced_stops g.M.Module.meaning c.args.stack.now c.args.dict.now c.args.section c.args.kind all c.args.scope.now c.args.scope.now (g.W.World.state c.args.world.now) (g.W.World.state c.run_members.new.world) place is (subst Stopped (sym runs) c.in_err-so_far-in-Plain.ensures.memory))

pub run_balanced-run_around-requires : goal.run_balanced-run_around-requires
run_balanced-run_around-requires g t c κs within = (omega (arith, c.decreases), (search rules, (search rules, (search rules, (picked_within c.args.scope.now (length c.args.statements.now) c.in-Some.place (sym c.in-Some.is ∙ c.picked.ensures), (c.requires.served, (c.requires.in_time, c.requires.changes)))))))

pub run_balanced-returns-in_err-so_far-in-Redundant-clause-memory :
    goal.run_balanced-returns-in_err-so_far-in-Redundant-clause-memory
run_balanced-returns-in_err-so_far-in-Redundant-clause-memory g t c =
    let all = c.args.statements.now in
    let place = c.in-Some.place in
    let is : Some place ≡ picked_of c.args.scope.now (length all) = sym c.in-Some.is ∙ c.picked.ensures in
    let runs : ordered c.args.kind place all ≡ rotated place all = ap (λ (k : GroupKind). ordered k place all) c.in-Redundant.is in
    let Stopped : List Statement → Type 0 = λ (run : List Statement). Stops c.args.scope.now (g.W.World.state c.args.world.now) (λ s. (run_of g.M.Module.meaning c.args.stack.now c.args.dict.now c.args.section c.args.kind run s).situation.effects) (g.W.World.state c.run_around.new.world) in
    on_err c.from_residual-in_err-so_far-in-Redundant.result (balanced_stops g.M.Module.meaning c.args.stack.now c.args.dict.now c.args.section c.args.kind all c.args.scope.now c.args.scope.now (g.W.World.state c.args.world.now) (g.W.World.state c.run_around.new.world) place is (subst Stopped (sym runs) c.in_err-so_far-in-Redundant.ensures.memory))

pub run_balanced-returns-clause-ok : goal.run_balanced-returns-clause-ok
run_balanced-returns-clause-ok g t c =
    let all = c.args.statements.now in
    let place = c.in-Some.place in
    let is : Some place ≡ picked_of c.args.scope.now (length all) = sym c.in-Some.is ∙ c.picked.ensures in
    balanced_done g.M.Module.meaning c.args.stack.now c.args.dict.now c.args.section c.args.kind all c.args.scope.now c.match-kind.scope (g.W.World.state c.args.world.now) (g.W.World.state c.match-kind.world) place is c.match-kind.so_far c.end_of-2.result
    (elim c.match-kind.branch [
      | run_balanced-in-Plain+in_ok-so_far-in-Plain w ↦ reaches_at c.args.scope.now w.run_members.new.scope c.match-kind.scope (g.W.World.state c.args.world.now) (g.W.World.state w.run_members.new.world) (g.W.World.state c.match-kind.world) (left g.M.Module.meaning c.args.stack.now c.args.dict.now c.args.section c.args.kind None (ordered c.args.kind place all)) (λ (p : Progress) (s : Situation). (s, p)) w.in_ok-so_far-in-Plain.so_far c.match-kind.so_far w.scope-is (ap g.W.World.state w.world-is) w.so_far-is
          (let runs : ordered c.args.kind place all ≡ w.split_at-in-Plain.result.0.now = ap (λ (k : GroupKind). ordered k place all) w.in-Plain.is ∙ sym (w.split_at-in-Plain.ensures.front ∙ ap (take 1) w.split_at.ensures.back) in
          let Reached : List Statement → Type 0 = λ (run : List Statement). Reaches c.args.scope.now (g.W.World.state c.args.world.now) (left g.M.Module.meaning c.args.stack.now c.args.dict.now c.args.section c.args.kind None run) w.run_members.new.scope (g.W.World.state w.run_members.new.world) (λ s. (s, w.in_ok-so_far-in-Plain.so_far)) in
          subst Reached (sym runs) w.in_ok-so_far-in-Plain.ensures.ok)
      | run_balanced-in-Redundant+in_ok-so_far-in-Redundant w ↦ reaches_at c.args.scope.now w.run_around.new.scope c.match-kind.scope (g.W.World.state c.args.world.now) (g.W.World.state w.run_around.new.world) (g.W.World.state c.match-kind.world) (left g.M.Module.meaning c.args.stack.now c.args.dict.now c.args.section c.args.kind None (ordered c.args.kind place all)) (λ (p : Progress) (s : Situation). (s, p)) w.in_ok-so_far-in-Redundant.so_far c.match-kind.so_far w.scope-is (ap g.W.World.state w.world-is) w.so_far-is
          (let runs : ordered c.args.kind place all ≡ rotated place all = ap (λ (k : GroupKind). ordered k place all) w.in-Redundant.is in
          let Reached : List Statement → Type 0 = λ (run : List Statement). Reaches c.args.scope.now (g.W.World.state c.args.world.now) (left g.M.Module.meaning c.args.stack.now c.args.dict.now c.args.section c.args.kind None run) w.run_around.new.scope (g.W.World.state w.run_around.new.world) (λ s. (s, w.in_ok-so_far-in-Redundant.so_far)) in
          subst Reached (sym runs) w.in_ok-so_far-in-Redundant.ensures.ok)
    ])
    c.end_of-2.ensures

pub run_formed-returns-in-Group-clause-memory : goal.run_formed-returns-in-Group-clause-memory
run_formed-returns-in-Group-clause-memory g t c = rw c.in-Group.is c.run_in_order.ensures.memory

pub run_formed-returns-in-Redundant-clause-memory :
    goal.run_formed-returns-in-Redundant-clause-memory
run_formed-returns-in-Redundant-clause-memory g t c = rw c.in-Redundant.is c.run_in_order-in-Redundant.ensures.memory

pub run_formed-returns-in-LoadBalance-clause-memory :
    goal.run_formed-returns-in-LoadBalance-clause-memory
run_formed-returns-in-LoadBalance-clause-memory g t c = rw c.in-LoadBalance.is c.run_balanced.ensures.memory

pub run_formed-returns-in-RedundantLoadBalance-clause-memory :
    goal.run_formed-returns-in-RedundantLoadBalance-clause-memory
run_formed-returns-in-RedundantLoadBalance-clause-memory g t c = rw c.in-RedundantLoadBalance.is c.run_balanced-in-RedundantLoadBalance.ensures.memory

pub run_formed-returns-in-Policy-clause-memory : goal.run_formed-returns-in-Policy-clause-memory
run_formed-returns-in-Policy-clause-memory g t c = rw c.in-Policy.is c.run_in_order-in-Policy.ensures.memory

pub run_group-returns-in_err-ended-clause-memory :
    goal.run_group-returns-in_err-ended-clause-memory
run_group-returns-in_err-ended-clause-memory g t c =
    rw (← c.as_slice.ensures) (on_err c.from_residual.result c.in_err-ended.ensures.memory)

pub run_in_order-returns-clause-ok : goal.run_in_order-returns-clause-ok
run_in_order-returns-clause-ok g t c =
    reaches_as c.args.scope.now c.run_members.new.scope (g.W.World.state c.args.world.now) (g.W.World.state c.run_members.new.world)
    (λ s. finished (left g.M.Module.meaning c.args.stack.now c.args.dict.now c.args.section c.args.kind None c.args.statements.now s)) (λ s. finished (s, c.in_ok-so_far.so_far)) (λ s. ends_as (run_of g.M.Module.meaning c.args.stack.now c.args.dict.now c.args.section c.args.kind c.args.statements.now s)) (λ s. (s, c.end_of.result))
    (λ s. ends_is (run_of g.M.Module.meaning c.args.stack.now c.args.dict.now c.args.section c.args.kind c.args.statements.now s)) (λ s. ap (λ (e : Ended). (s, e)) (sym c.end_of.ensures))
    (reaches_then c.args.scope.now c.run_members.new.scope (g.W.World.state c.args.world.now) (g.W.World.state c.run_members.new.world) (left g.M.Module.meaning c.args.stack.now c.args.dict.now c.args.section c.args.kind None c.args.statements.now) (λ s. (s, c.in_ok-so_far.so_far)) finished c.in_ok-so_far.ensures.ok)

pub run_kind-run_group-requires : goal.run_kind-run_group-requires
run_kind-run_group-requires g t c κs within = (omega (arith, c.decreases, ap kind.the_size c.in-Group.is, size_of_block c.in-Group.group), (search rules, (search rules, (search rules, (subst (AllByRecursion (IsServed g.M.Module.meaning c.args.stack.now c.args.section)) (ap calls_in_kind c.in-Group.is ∙ calls_of_group c.in-Group.group) c.requires.served, (c.requires.in_time, c.requires.changes))))))

pub run_kind-returns-in_err-child-in-Update-clause-memory :
    goal.run_kind-returns-in_err-child-in-Update-clause-memory
run_kind-returns-in_err-child-in-Update-clause-memory g t c =
    let Stopped : Piece → Type 0 = λ (p : Piece). OnErr c.from_residual.result (Stops c.args.scope.now (g.W.World.state c.args.world.now) (λ s. (p c.args.kind s).situation.effects) (g.W.World.state c.args.world.now)) in
    subst Stopped (sym (ap (kind_done g.M.Module.meaning c.args.stack.now c.args.dict.now c.args.section) c.in-Update.is ∙ by_update g.M.Module.meaning c.args.stack.now c.args.dict.now c.args.section c.in-Update.lines)) (on_err c.from_residual.result (update_stops c.args.dict.now c.args.section c.args.kind c.in-Update.lines c.args.scope.now (g.W.World.state c.args.world.now)))

pub run_kind-returns-in-Call-clause-memory : goal.run_kind-returns-in-Call-clause-memory
run_kind-returns-in-Call-clause-memory g t c =
    let Stopped : Piece → Type 0 = λ (p : Piece). OnErr c.call.result (Stops c.args.scope.now (g.W.World.state c.args.world.now) (λ s. (p c.args.kind s).situation.effects) (g.W.World.state c.call.new.world)) in
    subst Stopped (sym (ap (kind_done g.M.Module.meaning c.args.stack.now c.args.dict.now c.args.section) c.in-Call.is ∙ by_call g.M.Module.meaning c.args.stack.now c.args.dict.now c.args.section c.in-Call.called)) c.call.ensures.memory

pub run_kind-returns-in-Group-clause-memory : goal.run_kind-returns-in-Group-clause-memory
run_kind-returns-in-Group-clause-memory g t c =
    let Stopped : Piece → Type 0 = λ (p : Piece). OnErr c.run_group.result (Stops c.args.scope.now (g.W.World.state c.args.world.now) (λ s. (p c.args.kind s).situation.effects) (g.W.World.state c.run_group.new.world)) in
    subst Stopped (sym (ap (kind_done g.M.Module.meaning c.args.stack.now c.args.dict.now c.args.section) c.in-Group.is ∙ by_group g.M.Module.meaning c.args.stack.now c.args.dict.now c.args.section c.in-Group.group)) c.run_group.ensures.memory

pub run_kind-returns-in-Return-clause-ok : goal.run_kind-returns-in-Return-clause-ok
run_kind-returns-in-Return-clause-ok g t c =
    let Reached : Piece → Type 0 = λ (p : Piece). Reaches c.args.scope.now (g.W.World.state c.args.world.now) (p c.args.kind) c.args.scope.now (g.W.World.state c.args.world.now) (done_in c.returned.result) in
    subst Reached (sym (ap (kind_done g.M.Module.meaning c.args.stack.now c.args.dict.now c.args.section) c.in-Return.is ∙ by_return g.M.Module.meaning c.args.stack.now c.args.dict.now c.args.section)) (rw c.returned.ensures (reaches_start c.args.scope.now (g.W.World.state c.args.world.now) returned))

pub run_kind-returns-in_ok-child-in-Update-clause-ok :
    goal.run_kind-returns-in_ok-child-in-Update-clause-ok
run_kind-returns-in_ok-child-in-Update-clause-ok g t c =
    let Reached : Piece → Type 0 = λ (p : Piece). Reaches c.args.scope.now (g.W.World.state c.args.world.now) (p c.args.kind) c.update.new.scope (g.W.World.state c.args.world.now) (done_in c.of_child.result) in
    subst Reached (sym (ap (kind_done g.M.Module.meaning c.args.stack.now c.args.dict.now c.args.section) c.in-Update.is ∙ by_update g.M.Module.meaning c.args.stack.now c.args.dict.now c.args.section c.in-Update.lines)) (rw c.of_child.ensures (update_reaches c.args.dict.now c.args.section c.args.kind c.in-Update.lines c.args.scope.now c.update.new.scope (g.W.World.state c.args.world.now) c.in_ok-child-in-Update.child (subst (λ (lines : List Line). IsUpdate c.args.dict.now c.args.section c.args.kind lines c.args.scope.now c.update.new.scope c.in_ok-child-in-Update.child) c.as_slice.ensures c.in_ok-child-in-Update.ensures.done)))

pub run_members-loop-statement-init : goal.run_members-loop-statement-init
run_members-loop-statement-init g t c =
    record { reached = reaches_start c.args.scope.now (g.W.World.state c.args.world.now) (left g.M.Module.meaning c.args.stack.now c.args.dict.now c.args.section c.args.kind c.args.leading c.args.statements.now); in_time = c.requires.in_time }

pub run_members-run_statement-requires : goal.run_members-run_statement-requires
run_members-run_statement-requires g t c κs within =
    let P : Call → Type 0 = IsServed g.M.Module.meaning c.args.stack.now c.args.section in
    (omega (arith, c.decreases, ap one.the_size c.statement-item.is, at_most one.the_size c.args.statements.now c.loop-statement.statement-index c.statement-item.result c.loop-statement-test.true), (search rules, (search rules, (search rules, (subst (λ x. AllByRecursion P (calls_in x)) (sym c.statement-item.is) (each_at P c.args.statements.now c.loop-statement.statement-index c.statement-item.result c.loop-statement-test.true c.requires.served), (c.loop-statement.invariant.in_time, search rules))))))

pub run_members-returns-in_err-done-clause-memory :
    goal.run_members-returns-in_err-done-clause-memory
run_members-returns-in_err-done-clause-memory g t c =
    let loop = c.loop-statement in
    let statement = c.statement-item.result in
    let all = c.args.statements.now in
    let Reached : List Statement → Type 0 = λ (rest : List Statement). Reaches c.args.scope.now (g.W.World.state c.args.world.now) (left g.M.Module.meaning c.args.stack.now c.args.dict.now c.args.section c.args.kind c.args.leading all) loop.scope (g.W.World.state loop.world) (left g.M.Module.meaning c.args.stack.now c.args.dict.now c.args.section c.args.kind loop.leading rest) in
    let so_far = subst Reached (from_here all loop.statement-index statement c.loop-statement-test.true c.statement-item.is) loop.invariant.reached in
    on_err c.from_residual.result (stops_here g.M.Module.meaning c.args.stack.now c.args.dict.now c.args.section c.args.kind c.args.leading all c.args.scope.now (g.W.World.state c.args.world.now) loop.leading statement (drop (loop.statement-index + 1) all) loop.scope c.run_statement.new.scope (g.W.World.state loop.world) (g.W.World.state c.run_statement.new.world) so_far g.met.M.Module.lawful c.in_err-done.ensures.memory)

pub run_members-returns-in-Over-clause-ok : goal.run_members-returns-in-Over-clause-ok
run_members-returns-in-Over-clause-ok g t c =
    let loop = c.loop-statement in
    let statement = c.statement-item.result in
    let all = c.args.statements.now in
    let Reached : List Statement → Type 0 = λ (rest : List Statement). Reaches c.args.scope.now (g.W.World.state c.args.world.now) (left g.M.Module.meaning c.args.stack.now c.args.dict.now c.args.section c.args.kind c.args.leading all) loop.scope (g.W.World.state loop.world) (left g.M.Module.meaning c.args.stack.now c.args.dict.now c.args.section c.args.kind loop.leading rest) in
    let so_far = subst Reached (from_here all loop.statement-index statement c.loop-statement-test.true c.statement-item.is) loop.invariant.reached in
    ends_here g.M.Module.meaning c.args.stack.now c.args.dict.now c.args.section c.args.kind c.args.leading all c.args.scope.now (g.W.World.state c.args.world.now) loop.leading statement (drop (loop.statement-index + 1) all) loop.scope c.run_statement.new.scope (g.W.World.state loop.world) (g.W.World.state c.run_statement.new.world) so_far c.in_ok-done.done c.in-Over.ended c.in_ok-done.ensures.ok (sym c.absorbed.ensures ∙ c.in-Over.is)

pub run_members-loop-statement-preserved : goal.run_members-loop-statement-preserved
run_members-loop-statement-preserved g t c =
    let loop = c.loop-statement in
    let statement = c.statement-item.result in
    let all = c.args.statements.now in
    let Reached : List Statement → Type 0 = λ (rest : List Statement). Reaches c.args.scope.now (g.W.World.state c.args.world.now) (left g.M.Module.meaning c.args.stack.now c.args.dict.now c.args.section c.args.kind c.args.leading all) loop.scope (g.W.World.state loop.world) (left g.M.Module.meaning c.args.stack.now c.args.dict.now c.args.section c.args.kind loop.leading rest) in
    let so_far = subst Reached (from_here all loop.statement-index statement c.loop-statement-test.true c.statement-item.is) loop.invariant.reached in
    record { reached = goes_on_here g.M.Module.meaning c.args.stack.now c.args.dict.now c.args.section c.args.kind c.args.leading all c.args.scope.now (g.W.World.state c.args.world.now) loop.leading statement (drop (loop.statement-index + 1) all) loop.scope c.run_statement.new.scope (g.W.World.state loop.world) (g.W.World.state c.run_statement.new.world) so_far c.in_ok-done.done c.in-Going.heaviest c.in_ok-done.ensures.ok (sym c.absorbed.ensures ∙ c.in-Going.is); in_time = c.in_ok-done.ensures.in_time }

pub run_members-returns-clause-ok : goal.run_members-returns-clause-ok
run_members-returns-clause-ok g t c = ends_behind g.M.Module.meaning c.args.stack.now c.args.dict.now c.args.section c.args.kind c.args.leading c.args.statements.now c.loop-statement.statement-index c.args.scope.now c.loop-statement.scope (g.W.World.state c.args.world.now) (g.W.World.state c.loop-statement.world) c.loop-statement.leading (omega (arith, c.loop-statement-test.false)) c.loop-statement.invariant.reached

pub run_members-returns-clause-in_time : goal.run_members-returns-clause-in_time
run_members-returns-clause-in_time g t c = c.loop-statement.invariant.in_time

pub run_statement-returns-in_err-done-clause-memory :
    goal.run_statement-returns-in_err-done-clause-memory
run_statement-returns-in_err-done-clause-memory g t c =
    let Stopped : Piece → Type 0 = λ (p : Piece). OnErr c.from_residual.result (Stops c.args.scope.now (g.W.World.state c.args.world.now) (λ s. (p c.args.kind s).situation.effects) (g.W.World.state c.run_kind.new.world)) in
    subst Stopped (sym (by_kind g.M.Module.meaning c.args.stack.now c.args.dict.now c.args.section c.args.statement.now)) (on_err c.from_residual.result c.in_err-done.ensures.memory)

pub run_statement-returns-in-Some-clause-ok : goal.run_statement-returns-in-Some-clause-ok
run_statement-returns-in-Some-clause-ok g t c =
    let Reached : Piece → Type 0 = λ (p : Piece). Reaches c.args.scope.now (g.W.World.state c.args.world.now) (p c.args.kind) c.run_kind.new.scope (g.W.World.state c.run_kind.new.world) (done_in c.in_ok-done.done) in
    subst Reached (sym (by_kind g.M.Module.meaning c.args.stack.now c.args.dict.now c.args.section c.args.statement.now)) c.in_ok-done.ensures.ok

pub run_statement-returns-in_default-clause-ok : goal.run_statement-returns-in_default-clause-ok
run_statement-returns-in_default-clause-ok g t c =
    let Reached : Piece → Type 0 = λ (p : Piece). Reaches c.args.scope.now (g.W.World.state c.args.world.now) (p c.args.kind) c.run_kind.new.scope (g.W.World.state c.run_kind.new.world) (done_in c.in_ok-done.done) in
    subst Reached (sym (by_kind g.M.Module.meaning c.args.stack.now c.args.dict.now c.args.section c.args.statement.now)) c.in_ok-done.ensures.ok

pub run_kind-run_if-requires : goal.run_kind-run_if-requires
run_kind-run_if-requires g t c κs within = (omega (arith, c.decreases, ap kind.the_size c.in-If.is, size_of_if c.in-If.arms, ap (most arm.the_size) c.as_slice-in-If.ensures), (search rules, (search rules, (search rules, (subst (AllByRecursion (λ (a : Arm). AllByRecursion (IsServed g.M.Module.meaning c.args.stack.now c.args.section) (calls_of (out-Arm a).statements))) (sym c.as_slice-in-If.ensures) (each_arm (IsServed g.M.Module.meaning c.args.stack.now c.args.section) c.in-If.arms (subst (AllByRecursion (IsServed g.M.Module.meaning c.args.stack.now c.args.section)) (ap calls_in_kind c.in-If.is ∙ calls_of_if c.in-If.arms) c.requires.served)), (c.requires.in_time, c.requires.changes))))))

pub run_kind-returns-in-If-clause-memory : goal.run_kind-returns-in-If-clause-memory
run_kind-returns-in-If-clause-memory g t c =
    let Stopped : Piece → Type 0 = λ (p : Piece). OnErr c.run_if.result (Stops c.args.scope.now (g.W.World.state c.args.world.now) (λ s. (p c.args.kind s).situation.effects) (g.W.World.state c.run_if.new.world)) in
    subst Stopped (ap (if_done g.M.Module.meaning c.args.stack.now c.args.dict.now c.args.section) c.as_slice-in-If.ensures ∙ sym (ap (kind_done g.M.Module.meaning c.args.stack.now c.args.dict.now c.args.section) c.in-If.is ∙ by_if g.M.Module.meaning c.args.stack.now c.args.dict.now c.args.section c.in-If.arms)) c.run_if.ensures.memory

pub run_arm-returns-in_err-ended-clause-memory : goal.run_arm-returns-in_err-ended-clause-memory
run_arm-returns-in_err-ended-clause-memory g t c = rw (← c.as_slice.ensures) (on_err c.from_residual.result c.in_err-ended.ensures.memory)

pub run_if-run_arm-requires : goal.run_if-run_arm-requires
run_if-run_arm-requires g t c κs within =
    let is = subst (λ o. taken_of c.args.dict.now c.args.arms.now c.args.scope.now ≡ (option_copied o, c.taken_of.new.scope)) c.in-Some.is c.in_ok-taken.ensures.taken in
    let smaller : arm.the_size c.in-Some.arm.now ≤ most arm.the_size c.args.arms.now =
    taken_is_so (λ (a : Arm). arm.the_size a ≤ most arm.the_size c.args.arms.now) c.args.dict.now c.args.arms.now c.args.scope.now c.taken_of.new.scope c.in-Some.arm.now (each_below arm.the_size c.args.arms.now) is in
    let served = taken_is_so (λ (a : Arm). AreServed g.M.Module.meaning c.args.stack.now c.args.section (out-Arm a).statements) c.args.dict.now c.args.arms.now c.args.scope.now c.taken_of.new.scope c.in-Some.arm.now c.requires.served is in
    (omega (arith, c.decreases, smaller), (search rules, (search rules, (search rules, (served, (captures_keep_time c.args.scope.now c.taken_of.new.scope c.taken_of.ensures.alone c.requires.in_time, c.requires.changes))))))

pub run_if-returns-in_err-taken-clause-memory : goal.run_if-returns-in_err-taken-clause-memory
run_if-returns-in_err-taken-clause-memory g t c =
    on_err c.from_residual.result (question_stops g.M.Module.meaning g.met.M.Module.lawful c.args.stack.now c.args.dict.now c.args.section c.args.kind c.args.arms.now c.args.scope.now (g.W.World.state c.args.world.now))

pub run_if-returns-in-Some-clause-ok : goal.run_if-returns-in-Some-clause-ok
run_if-returns-in-Some-clause-ok g t c =
    let is = subst (λ o. taken_of c.args.dict.now c.args.arms.now c.args.scope.now ≡ (option_copied o, c.taken_of.new.scope)) c.in-Some.is c.in_ok-taken.ensures.taken in
    if_ok c.run_arm.result (λ value reached. taken_reaches g.M.Module.meaning c.args.stack.now c.args.dict.now c.args.section c.args.kind c.args.arms.now c.args.scope.now c.taken_of.new.scope (g.W.World.state c.args.world.now) c.in-Some.arm.now is c.run_arm.new.scope (g.W.World.state c.run_arm.new.world) value reached) c.run_arm.ensures.ok

pub run_if-returns-in-Some-clause-memory : goal.run_if-returns-in-Some-clause-memory
run_if-returns-in-Some-clause-memory g t c =
    let is = subst (λ o. taken_of c.args.dict.now c.args.arms.now c.args.scope.now ≡ (option_copied o, c.taken_of.new.scope)) c.in-Some.is c.in_ok-taken.ensures.taken in
    if_err c.run_arm.result (taken_stops g.M.Module.meaning c.args.stack.now c.args.dict.now c.args.section c.args.kind c.args.arms.now c.args.scope.now c.taken_of.new.scope (g.W.World.state c.args.world.now) c.in-Some.arm.now is (g.W.World.state c.run_arm.new.world)) c.run_arm.ensures.memory

pub run_if-returns-in-None-clause-ok : goal.run_if-returns-in-None-clause-ok
run_if-returns-in-None-clause-ok g t c =
    let is = subst (λ o. taken_of c.args.dict.now c.args.arms.now c.args.scope.now ≡ (option_copied o, c.taken_of.new.scope)) c.in-None.is c.in_ok-taken.ensures.taken in
    rw c.not_taken.ensures (untaken_reaches g.M.Module.meaning c.args.stack.now c.args.dict.now c.args.section c.args.kind c.args.arms.now c.args.scope.now c.taken_of.new.scope (g.W.World.state c.args.world.now) is)

pub run_if-returns-in-None-clause-in_time : goal.run_if-returns-in-None-clause-in_time
run_if-returns-in-None-clause-in_time g t c = captures_keep_time c.args.scope.now c.taken_of.new.scope c.taken_of.ensures.alone c.requires.in_time

pub run_kind-returns-in-Call-clause-ok : goal.run_kind-returns-in-Call-clause-ok
run_kind-returns-in-Call-clause-ok g t c =
    let Reached : Piece → Type 0 = λ (p : Piece). IfOk c.call.result (λ value. Reaches c.args.scope.now (g.W.World.state c.args.world.now) (p c.args.kind) c.call.new.scope (g.W.World.state c.call.new.world) (done_in value)) in
    subst Reached (sym (ap (kind_done g.M.Module.meaning c.args.stack.now c.args.dict.now c.args.section) c.in-Call.is ∙ by_call g.M.Module.meaning c.args.stack.now c.args.dict.now c.args.section c.in-Call.called)) c.call.ensures.ok

pub run_kind-returns-in-Group-clause-ok : goal.run_kind-returns-in-Group-clause-ok
run_kind-returns-in-Group-clause-ok g t c =
    let Reached : Piece → Type 0 = λ (p : Piece). IfOk c.run_group.result (λ value. Reaches c.args.scope.now (g.W.World.state c.args.world.now) (p c.args.kind) c.run_group.new.scope (g.W.World.state c.run_group.new.world) (done_in value)) in
    subst Reached (sym (ap (kind_done g.M.Module.meaning c.args.stack.now c.args.dict.now c.args.section) c.in-Group.is ∙ by_group g.M.Module.meaning c.args.stack.now c.args.dict.now c.args.section c.in-Group.group)) c.run_group.ensures.ok

pub run_kind-returns-in-If-clause-ok : goal.run_kind-returns-in-If-clause-ok
run_kind-returns-in-If-clause-ok g t c =
    let Reached : Piece → Type 0 = λ (p : Piece). IfOk c.run_if.result (λ value. Reaches c.args.scope.now (g.W.World.state c.args.world.now) (p c.args.kind) c.run_if.new.scope (g.W.World.state c.run_if.new.world) (done_in value)) in
    subst Reached (ap (if_done g.M.Module.meaning c.args.stack.now c.args.dict.now c.args.section) c.as_slice-in-If.ensures ∙ sym (ap (kind_done g.M.Module.meaning c.args.stack.now c.args.dict.now c.args.section) c.in-If.is ∙ by_if g.M.Module.meaning c.args.stack.now c.args.dict.now c.args.section c.in-If.arms)) c.run_if.ensures.ok
