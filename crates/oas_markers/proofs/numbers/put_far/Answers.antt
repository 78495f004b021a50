use Rattle.std.proofs.Common.{ℕ, List, subst, rules, SFits}
use Rattle.std.specs.Int.{w128}
use Rattle.std.specs.Prelude.{◌+ℤ◌}
use Rattle.oas_num.specs.Writing.{Writes}
use Rattle.oas_markers.proofs.NumberLemmas.{far_of}
use Rattle.oas_markers.proofs.numbers.put_far.Goals as goal

pub returns : goal.returns
returns g c =
    let one : SFits w128 c.from.result = search rules in
    let two : SFits w128 c.from-2.result = search rules in
    let both : SFits w128 (c.from.result +ℤ c.from-2.result) = search rules in
    subst (λ (bs : List ℕ). Writes g.K.Sink.given g.K.Sink.failures c.args.sink.now bs c.put_microns.result c.put_microns.new.sink)
    (far_of c.args.unit c.args.x c.from.result c.from-2.result c.args.side c.ranges.x one two both c.from.ensures c.from-2.ensures) c.put_microns.ensures
