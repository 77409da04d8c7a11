use Rattle.rad_sessions.proofs.Standing.{begun_stands, begun_leaves, ended_is_gone, ended_leaves}
use Rattle.rad_sessions.proofs.laws.sessions_stand_until_they_end.Goals as goal

pub returns-clause-begun : goal.returns-clause-begun
returns-clause-begun c = begun_stands

pub returns-clause-begun_elsewhere : goal.returns-clause-begun_elsewhere
returns-clause-begun_elsewhere c = begun_leaves

pub returns-clause-ended : goal.returns-clause-ended
returns-clause-ended c = ended_is_gone

pub returns-clause-ended_elsewhere : goal.returns-clause-ended_elsewhere
returns-clause-ended_elsewhere c = ended_leaves
