use Rattle.std.proofs.Common.{◌*◌, ℕ, List, subst, ap}
use Rattle.oas_num.specs.Writing.{Writes}
use Rattle.oas_difference.specs.Microns.{length_in}
use Rattle.oas_markers.proofs.numbers.put_double.Goals as goal

pub returns : goal.returns
returns g c =
    subst (λ (bs : List ℕ). Writes g.K.Sink.given g.K.Sink.failures c.args.sink.now bs c.put_length.result c.put_length.new.sink)
    (ap (λ (n : ℕ). length_in c.args.unit (2 * n)) c.from.ensures) c.put_length.ensures
