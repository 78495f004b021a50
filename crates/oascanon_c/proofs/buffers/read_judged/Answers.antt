use Rattle.oascanon_c.proofs.ReadingLemmas.{outcome_given, outcome_not_given}
use Rattle.oascanon_c.proofs.buffers.read_judged.Goals as goal

pub returns-clause-read : goal.returns-clause-read
returns-clause-read c = outcome_given c.args.limits c.args.bytes.now c.read_given.new.source c.read_given.result (rw (c.new-source.ensures, c.input.ensures) at c.read_given.ensures)

pub returns-clause-refused : goal.returns-clause-refused
returns-clause-refused c = outcome_not_given c.args.limits c.args.bytes.now c.read_given.new.source c.read_given.result (rw (c.new-source.ensures, c.input.ensures) at c.read_given.ensures)
