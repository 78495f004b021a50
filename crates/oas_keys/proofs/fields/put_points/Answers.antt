use Rattle.std.proofs.Common.{◌++◌, [], List, sym, ap, ◌∙◌}
use Rattle.std.proofs.lemmas.List.{append-nil}
use Rattle.oas_ring.specs.declared.point.Point.{Point}
use Rattle.oas_ring.specs.Points.{origin}
use Rattle.oas_keys.specs.Keys.{points_key}
use Rattle.oas_keys.proofs.fields.put_points.Goals as goal

pub returns-clause-items : goal.returns-clause-items
returns-clause-items c =
    c.push_reserved.ensures.items
    ∙ sym (c.put_forwards.ensures.items [])
    ∙ ap (λ (t : List Point). c.args.out.now.items ++ points_key origin t) (append-nil c.args.points.now)
