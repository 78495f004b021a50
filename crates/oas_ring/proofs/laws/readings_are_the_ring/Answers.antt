use Rattle.std.proofs.Common.{sym, subst, List}
use Rattle.oas_ring.specs.declared.point.Point.{Point}
use Rattle.oas_ring.specs.Rings.{SameRing}
use Rattle.oas_ring.specs.Laws.ReadingsLaws.{read_from_same_ring, same_ring-reading_of}
use Rattle.oas_ring.proofs.laws.readings_are_the_ring.Goals as goal

pub returns : goal.returns
returns c = λ p q some. (
  λ same. let read = read_from_same_ring p q some same in (read.reading, read.within, read.is),
  λ read. subst (λ (t : List Point). SameRing p t) (sym read.2) (same_ring-reading_of p read.0),
)
