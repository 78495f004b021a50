use Rattle.oas_checksum.proofs.SummingLemmas.{summed_first}
use Rattle.oas_checksum.proofs.sources.SummedSource.new.Goals as goal

pub invariant_of-result : goal.invariant_of-result
invariant_of-result g c = record { summed = summed_first _ c.requires.named c.requires.starts c.new.ensures }
