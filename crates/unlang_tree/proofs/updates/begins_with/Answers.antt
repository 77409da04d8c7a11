use Rattle.std.proofs.Common.{ap, take, length, ◌∙◌}
use Rattle.std.specs.Str.{str_eq_ignore_ascii_case}
use Rattle.std.proofs.lemmas.List.{take_min}
use Rattle.unlang_tree.proofs.updates.begins_with.Goals as goal

pub returns : goal.returns
returns c =
    c.is_same.ensures
    ∙ ap (λ front. str_eq_ignore_ascii_case front c.args.prefix.now)
    (c.split_at.ensures.front ∙ ap (λ k. take k c.args.text.now) c.min.ensures ∙ take_min (length c.args.prefix.now) c.args.text.now)
