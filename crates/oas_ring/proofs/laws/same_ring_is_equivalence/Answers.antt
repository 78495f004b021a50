use Rattle.oas_ring.specs.Laws.RingsLaws.{same_ring_itself, same_ring_back, same_ring_twice}
use Rattle.oas_ring.proofs.laws.same_ring_is_equivalence.Goals as goal

pub returns : goal.returns
returns c = record { itself = same_ring_itself; back = same_ring_back; twice = same_ring_twice }
