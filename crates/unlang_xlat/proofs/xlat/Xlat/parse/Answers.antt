use Rattle.unlang_xlat.proofs.Parsing.{said_parts, said_fault}
use Rattle.unlang_xlat.proofs.xlat.Xlat.parse.Goals as goal

pub returns-in-Ok : goal.returns-in-Ok
returns-in-Ok c = said_parts c.args.text.now c.args.dict.now c.in-Ok.parts c.in-Ok.field-0-1.now c.in-Ok.ensures.exact

pub returns-in-Err : goal.returns-in-Err
returns-in-Err c = rw c.fault_at.ensures (said_fault c.args.text.now c.args.dict.now c.in-Err.error c.in-Err.ensures.exact)
