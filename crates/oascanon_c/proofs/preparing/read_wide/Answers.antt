use Rattle.oascanon_c.proofs.PreparingLemmas.{outcome_prepared, outcome_stopped}
use Rattle.oascanon_c.proofs.preparing.read_wide.Goals as goal

pub returns-clause-read : goal.returns-clause-read
returns-clause-read c = outcome_prepared c.args.limits c.args.dropping c.args.bytes.now c.read_prepared.new.from c.read_prepared.result (rw (c.new-source.ensures, c.input.ensures) at c.read_prepared.ensures)

pub returns-clause-stopped : goal.returns-clause-stopped
returns-clause-stopped c = outcome_stopped c.args.limits c.args.dropping c.args.bytes.now c.read_prepared.new.from c.read_prepared.result (rw (c.new-source.ensures, c.input.ensures) at c.read_prepared.ensures)
