use Rattle.unlang_code.proofs.table.Table.run_observed.Goals as goal

pub returns-clause-memory : goal.returns-clause-memory
returns-clause-memory g c = rw (← c.in-Some.ensures) c.run_section.ensures.memory
