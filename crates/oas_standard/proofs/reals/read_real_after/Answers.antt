use Rattle.oas_standard.proofs.ReadingLemmas.{unequal}
use Rattle.oas_standard.proofs.reals.read_real_after.Goals as goal

pub returns-then-kind-eq6 : goal.returns-then-kind-eq6
returns-then-kind-eq6 g c = rw c.if-kind-eq6.true c.read_single.ensures

pub returns-then-kind-eq7 : goal.returns-then-kind-eq7
returns-then-kind-eq7 g c = rw c.if-kind-eq7.true c.read_double.ensures

pub returns : goal.returns
returns g c = rw (unequal c.if-kind-eq6.false, unequal c.if-kind-eq7.false) c.read_fraction.ensures
