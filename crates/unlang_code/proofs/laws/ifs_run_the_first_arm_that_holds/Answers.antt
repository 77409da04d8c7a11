use Rattle.unlang_code.proofs.Branching.{first_runs, none_runs, none_captures}
use Rattle.unlang_code.proofs.laws.ifs_run_the_first_arm_that_holds.Goals as goal

pub returns-clause-first : goal.returns-clause-first
returns-clause-first g c = first_runs g.M.Module.meaning

pub returns-clause-none : goal.returns-clause-none
returns-clause-none g c = none_runs g.M.Module.meaning

pub returns-clause-captures : goal.returns-clause-captures
returns-clause-captures g c = none_captures
