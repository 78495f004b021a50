use Rattle.oas_checksum.proofs.SummingLemmas.{given_summed}
use Rattle.oas_checksum.proofs.sources.SummedSourceSource.next.Goals as goal

pub invariant_of-self-in-Some : goal.invariant_of-self-in-Some
invariant_of-self-in-Some g c = record { summed = given_summed c.in-Some.byte _ _ c.in-Some.is c.args.self.now.summed c.in_ok-next.ensures c.push.ensures }
