use Rattle.std.proofs.Common.{rules, not}
use Rattle.std.proofs.lemmas.Fn.{filter_same}
use Rattle.rad_value.specs.Pairs.{is_of}
use Rattle.rad_value.proofs.listed.remove_all.Goals as goal

pub returns-clause-items : goal.returns-clause-items
returns-clause-items c =
    filter_same _ (λ p. not (is_of c.args.attr p)) _ (λ x b f k. search rules) _ _ c.retain.ensures.filtered
