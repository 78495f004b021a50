use Rattle.std.proofs.Common.{◌≡◌, ap, ◌∙◌, w64}
use Rattle.std.proofs.lemmas.Int.{to_z-of_z}
use Rattle.oas_num.specs.Style.{code}
use Rattle.oas_num.specs.Writing.{shortest_signed}
use Rattle.oas_form.proofs.parts.put_coordinate.Goals as goal

pub returns-clause-counts : goal.returns-clause-counts
unfolding shortest_signed
returns-clause-counts g c =
    let e : c.coded.result ≡ code c.args.value = c.coded.ensures ∙ ap code (to_z-of_z w64 c.args.value c.ranges.value) in
    rw (← e) c.put_number.ensures.counts
