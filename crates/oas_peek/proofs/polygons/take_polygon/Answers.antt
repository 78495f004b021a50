use Rattle.std.specs.Prelude.{◌==◌}
use Rattle.oas_peek.proofs.NamedLemmas.{lacks}
use Rattle.oas_peek.proofs.PolygonLemmas.{all_given, polygon_takes}
use Rattle.oas_peek.proofs.polygons.take_polygon.Goals as goal

pub returns : goal.returns
returns c =
    let info = c.in_ok-info.info in
    rw c.note.ensures (polygon_takes info (info == 59) c.in_ok-info.ensures c.if-info-ge64.false (lacks info 4 c.if-info-ne0.false)
    c.in_ok-layer.ensures c.in_ok-points.ensures c.in_ok-x.ensures c.in_ok-y.ensures (all_given info))
