use Rattle.std.proofs.Common.{sym, ◌∙◌}
use Rattle.unlang_reference.proofs.Prefixes.{has_prefix, has_none}
use Rattle.unlang_reference.proofs.reading.after_prefix.Goals as goal

pub returns-then-is_same : goal.returns-then-is_same
returns-then-is_same c =
    has_prefix c.args.prefix.now c.args.text.now c.split_at.result.0.now c.split_at.result.1.now c.min.result c.min.ensures c.split_at.ensures.front c.split_at.ensures.back
    (sym c.is_same.ensures ∙ c.if-is_same.true)

pub returns-else-is_same : goal.returns-else-is_same
returns-else-is_same c =
    has_none c.args.prefix.now c.args.text.now c.split_at.result.0.now c.min.result c.min.ensures c.split_at.ensures.front
    (sym c.is_same.ensures ∙ c.if-is_same.false)
