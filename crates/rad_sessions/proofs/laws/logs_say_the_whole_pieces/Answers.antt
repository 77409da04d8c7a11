use Rattle.rad_sessions.proofs.Logging.{log_law}
use Rattle.rad_sessions.proofs.laws.logs_say_the_whole_pieces.Goals as goal

pub returns : goal.returns
returns c = λ log pieces all fit. log_law log pieces all fit
