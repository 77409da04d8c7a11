use Rattle.mod_users.proofs.Compiled.{answered, not_utf8}
use Rattle.mod_users.proofs.patterns.compiled.Goals as goal

pub returns-in-Ok : goal.returns-in-Ok
returns-in-Ok c = answered c.args.source.now c.built.result c.in-Ok.ensures.cases.1 (rw c.in-Ok.ensures.cases.0 at c.built.ensures)

pub returns-in-Err : goal.returns-in-Err
returns-in-Err c = not_utf8 c.args.source.now c.in-Err.ensures.cases.0
