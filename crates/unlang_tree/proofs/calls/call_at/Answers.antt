use Rattle.unlang_tree.proofs.CallLemmas.{not_there}
use Rattle.unlang_tree.proofs.calls.call_at.Goals as goal

pub returns-then-not-has_instance : goal.returns-then-not-has_instance
returns-then-not-has_instance c =
    not_there c.args.instances.now c.args.section c.args.place.now c.args.word.now c.called_name-name.result.now c.is_optional.result c.has_instance.result
    c.is_optional.ensures c.called_name-name.ensures c.has_instance.ensures c.if-is_optional.true c.if-not-has_instance.true
