use Rattle.oas_prepare.proofs.Whole.{finished}
use Rattle.oas_prepare.proofs.preparing.read_named.Goals.{in-Ok, in-Err}
use Rattle.oas_prepare.proofs.preparing.read_named.Goals as goal

pub returns-clause-reads : goal.returns-clause-reads
returns-clause-reads g c =
    let summed = rw (← c.requires.starts) at c.finish-from.ensures.sums in
    elim c.match-outcome.branch [
      | in-Ok w ↦
          let gathered = rw (c.new-summed.ensures.now, ← c.finish-from.ensures.now) at w.in-Ok.ensures in
          rw w.read-is (finished g.P.KeptBy.profile gathered _ summed w.finish-read.result w.finish-read.ensures)
      | in-Err w ↦
          let stops = rw (c.new-summed.ensures.now, ← c.finish-from.ensures.now) at w.in-Err.ensures in
          rw w.read-is stops
    ]
