use Rattle.std.proofs.Common.{ap, ◌∙◌}
use Rattle.unlang_tree.specs.Instances.{number_of}
use Rattle.unlang_tree.proofs.InstanceLemmas.{key_is_number}
use Rattle.unlang_tree.proofs.instances.Instances.find.Goals as goal

pub returns-in-Some : goal.returns-in-Some
returns-in-Some c = c.in-Some.ensures.index ∙ key_is_number c.args.name.now c.self.inside.methods.entries ∙ ap (λ l. number_of l c.args.name.now) c.self.view_is

pub returns-in-None : goal.returns-in-None
returns-in-None c = c.in-None.ensures.index ∙ key_is_number c.args.name.now c.self.inside.methods.entries ∙ ap (λ l. number_of l c.args.name.now) c.self.view_is
