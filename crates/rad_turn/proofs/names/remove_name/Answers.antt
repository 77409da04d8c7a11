use Rattle.std.proofs.Common.{rules, not, ◌==◌}
use Rattle.std.proofs.lemmas.Fn.{filter_same}
use Rattle.rad_turn.proofs.names.remove_name.Goals as goal

pub returns : goal.returns
returns c = filter_same _ (λ x. not (x == c.args.name)) _ (λ row answer after called. search rules) _ _ c.retain.ensures.filtered
