use Rattle.oas_preparing.proofs.JudgedLemmas.{gives_same}
use Rattle.oas_preparing.proofs.judged.read_judged_from.Goals as goal

pub returns-in-Canonical : goal.returns-in-Canonical
returns-in-Canonical g c = record { again = g.S.Source.script c.args.from.now; last = _; gives = gives_same _ _ c.requires; ran = (rw c.in-Canonical.is at c.in_ok-bytes.ensures, c.new.ensures) }

pub returns-in-Taken : goal.returns-in-Taken
returns-in-Taken g c = c.read_again-read.ensures.read
