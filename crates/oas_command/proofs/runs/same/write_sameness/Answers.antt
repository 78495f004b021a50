use Rattle.oas_command.proofs.runs.same.write_sameness.Goals as goal

pub returns-clause-written : goal.returns-clause-written
returns-clause-written g c = rw c.sameness.ensures at c.write_line.ensures.written

pub returns-clause-refused : goal.returns-clause-refused
returns-clause-refused g c = rw c.sameness.ensures at c.write_line.ensures.refused
