use Rattle.std.proofs.Common.{List, [], ◌∷◌, ◌++◌, sym, ap, ◌∙◌}
use Rattle.unlang_tree.specs.declared.statement.Statement.{Statement}
use Rattle.unlang_tree.specs.Arms.{with_last}
use Rattle.unlang_tree.proofs.ArmLemmas.{last_grows}
use Rattle.unlang_tree.proofs.arms.with_last.Goals as goal

pub returns : goal.returns
returns c =
    c.in_ok-push.ensures.ok ∙ ap (λ (one : Statement). c.pop.new.self ++ one ∷ []) c.in_ok-gone_on.ensures
    ∙ sym (ap (λ (all : List Statement). with_last all c.args.more) c.in-Some.ensures ∙ last_grows c.pop.new.self c.in-Some.last c.args.more)
