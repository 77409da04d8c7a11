use Rattle.rad_sessions.proofs.ReadBack.{read_back}
use Rattle.rad_sessions.proofs.Logging.{cut_piece, whole_piece}
use Rattle.rad_sessions.proofs.written.line_of.Goals as goal

pub returns-clause-back : goal.returns-clause-back
returns-clause-back c = read_back c.args.change.now c.in_ok-put_line.ensures.typed

pub returns-clause-whole : goal.returns-clause-whole
returns-clause-whole c = λ log fits. whole_piece log c.args.change.now c.in_ok-put_line.ensures.typed fits

pub returns-clause-torn : goal.returns-clause-torn
returns-clause-torn c = λ log count short. cut_piece log c.args.change.now count c.in_ok-put_line.ensures.typed short
