use Rattle.std.proofs.Common.{ℕ, List, subst, rules, SFits}
use Rattle.std.specs.Int.{w128}
use Rattle.oas_num.specs.Writing.{Writes}
use Rattle.oas_difference.proofs.MicronLemmas.{coordinate_of}
use Rattle.oas_markers.proofs.numbers.put_coordinate.Goals as goal

pub returns : goal.returns
returns g c =
    let fits : SFits w128 c.from.result = search rules in
    subst (λ (bs : List ℕ). Writes g.K.Sink.given g.K.Sink.failures c.args.sink.now bs c.put_microns.result c.put_microns.new.sink)
    (coordinate_of c.args.unit c.args.x c.from.result c.ranges.x fits c.from.ensures) c.put_microns.ensures
