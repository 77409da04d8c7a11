use Rattle.std.proofs.Common.{not, rules}
use Rattle.std.proofs.lemmas.Fn.{filter_same}
use Rattle.rad_value.specs.Edit.{is_equal_pair, pair_of}
use Rattle.rad_value.proofs.listed.remove.Goals as goal

pub returns-clause-items : goal.returns-clause-items
returns-clause-items c =
    filter_same _ (λ p. not (is_equal_pair (pair_of c.args.edit.now) p)) _ (λ x b f1 r. search rules) _ _ c.retain.ensures.filtered
