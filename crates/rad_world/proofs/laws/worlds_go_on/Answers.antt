use Rattle.rad_world.specs.Effects.{writes_of, lines_of}
use Rattle.rad_world.proofs.Joining.{gains_joined, all_done}
use Rattle.rad_world.proofs.laws.worlds_go_on.Goals as goal

pub returns-clause-joined : goal.returns-clause-joined
returns-clause-joined c = gains_joined

pub returns-clause-writes : goal.returns-clause-writes
returns-clause-writes c = λ before now made gains stands. all_done before.write_faults now.write_faults (writes_of made) gains.write_faults stands

pub returns-clause-lines : goal.returns-clause-lines
returns-clause-lines c = λ before now made gains stands. all_done before.line_faults now.line_faults (lines_of made) gains.line_faults stands
