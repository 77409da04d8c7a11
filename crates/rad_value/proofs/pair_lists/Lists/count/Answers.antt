use Rattle.std.proofs.Common.{not, refl, arith}
use Rattle.std.proofs.lemmas.List.Filters.{length-filter_both}
use Rattle.rad_value.specs.Pairs.{is_of}
use Rattle.rad_value.proofs.pair_lists.Lists.count.Goals as goal

pub overflow_cast-result : goal.overflow_cast-result
overflow_cast-result c =
    let p = is_of c.args.attr in
    omega (arith, c.pairs.ensures.bound, length-filter_both p (λ x. not (p x)) (λ _. refl) c.pairs.result.now)
