use Rattle.rad_value.proofs.pair_lists.Lists.update.Goals as goal

pub returns-in-Ok-clause-full : goal.returns-in-Ok-clause-full
returns-in-Ok-clause-full c = λ n. (λ e. cc, λ full. let e = (c.in-Ok.ensures.full n).1 full in cc)

pub returns-in-Err-clause-full : goal.returns-in-Err-clause-full
returns-in-Err-clause-full c =
    λ n. (λ e. (c.in-Err.ensures.full n).0 (cc), λ full. let e = (c.in-Err.ensures.full n).1 full in cc)
