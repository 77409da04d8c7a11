use Rattle.rad_sessions.proofs.ReadBack.{read_back, written_exactly}
use Rattle.rad_sessions.proofs.laws.lines_are_read_back.Goals as goal

pub returns-clause-back : goal.returns-clause-back
returns-clause-back c = λ change all. read_back change all

pub returns-clause-exact : goal.returns-clause-exact
returns-clause-exact c = λ line change said. written_exactly line change said
