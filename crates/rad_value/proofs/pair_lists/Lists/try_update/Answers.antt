use Rattle.rad_value.proofs.Trying.{full_is, free_is}
use Rattle.rad_value.proofs.pair_lists.Lists.try_update.Goals as goal

pub returns-in-Ok-clause-ok : goal.returns-in-Ok-clause-ok
returns-in-Ok-clause-ok c =
    let free = free_is c.args.self.now c.args.edit.now (λ n full. let e = (c.in-Ok.ensures.full n).1 full in cc) in
    rw c.in-Ok.ensures.done free

pub returns-in-Err-ListFull-clause-ok : goal.returns-in-Err-ListFull-clause-ok
returns-in-Err-ListFull-clause-ok c =
    (full_is c.args.self.now c.args.edit.now c.in-Err-ListFull.field-0-0 ((c.in-Err-ListFull.ensures.full c.in-Err-ListFull.field-0-0).0 (cc)), c.in-Err-ListFull.ensures.refused)
