use Rattle.oas_ring.specs.Laws.ReadingsLaws.{least_of-IsLeastReadingOf, least_of-is}
use Rattle.oas_ring.proofs.laws.one_least_reading.Goals as goal

pub returns : goal.returns
returns c = record { there = least_of-IsLeastReadingOf; only = least_of-is }
