use Rattle.oas_checksum.proofs.SummingLemmas.{summed_then}
use Rattle.oas_checksum.proofs.sources.SummedSourceSource.skip.Goals as goal

pub invariant_of-self : goal.invariant_of-self
invariant_of-self g c = record { summed = summed_then _ _ c.args.self.now.summed c.skip.ensures (rw c.ahead.ensures at c.update.ensures) }
