use Rattle.oas_preparing.proofs.judged.read_again.Goals as goal

pub returns-in-Ok-clause-read : goal.returns-in-Ok-clause-read
returns-in-Ok-clause-read g c = record { again = _; last = _; gives = c.new-again.ensures.again; ran = rw c.in-Ok.is at c.read_prepared-read.ensures }

pub returns-in-Err-clause-read : goal.returns-in-Err-clause-read
returns-in-Err-clause-read g c = record { again = _; last = _; gives = c.new-again.ensures.again; ran = rw c.in-Err.is at c.read_prepared-read.ensures }
