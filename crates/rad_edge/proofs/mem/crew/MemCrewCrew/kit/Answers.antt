use Rattle.std.proofs.Common.{arith}
use Rattle.rad_edge.proofs.mem.crew.MemCrewCrew.kit.Goals as goal

pub returns-in-Some-clause-faults : goal.returns-in-Some-clause-faults
returns-in-Some-clause-faults g c = rw (← c.self.view_is) (record { later = omega arith; cause = λ e. cc })

pub returns-in-None-clause-faults : goal.returns-in-None-clause-faults
returns-in-None-clause-faults g c = rw (← c.self.view_is) (record { later = omega arith; cause = λ e. omega arith })
