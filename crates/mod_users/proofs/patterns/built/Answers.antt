use Rattle.mod_users.proofs.Compiled.{not_within}
use Rattle.mod_users.proofs.patterns.built.Goals as goal

pub returns-in-Err-Syntax : goal.returns-in-Err-Syntax
returns-in-Err-Syntax c =
    let given = c.in-Err-Syntax in
    not_within c.args.source.now given.field-0-0.kind (given.ensures.refused given.field-0-0 given.field-0-is) (rw given.field-0-is at given.ensures.kind)
