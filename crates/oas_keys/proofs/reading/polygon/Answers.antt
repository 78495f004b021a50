use Rattle.std.proofs.Common.{◌∙◌}
use Rattle.oas_ring.specs.Points.{origin}
use Rattle.oas_elements.specs.declared.element.Element.TheVariants.{Polygon}
use Rattle.oas_keys.specs.Keys.{points_key}
use Rattle.oas_keys.proofs.KindLemmas.{polygon_within}
use Rattle.oas_keys.proofs.PointLemmas.{has_points}
use Rattle.oas_keys.proofs.reading.polygon.Goals as goal

pub unsigned_pair-layer-requires : goal.unsigned_pair-layer-requires
unsigned_pair-layer-requires c =
    let r = c.requires in
    (r.0, r.1, points_key origin r.2, r.3.sound.fits.layer_fits, r.3.sound.fits.datatype_fits, r.3.is)

pub returns : goal.returns
returns c layer datatype points h =
    let a = c.unsigned_pair-layer.ensures layer datatype (points_key origin points) h.sound.fits.layer_fits h.sound.fits.datatype_fits h.is in
    (points, has_points c.of.result points (polygon_within layer datatype points h.sound) (c.of.ensures.left ∙ a.2) c.of.ensures.before, λ i. Polygon (a.0 i) (a.1 i) points)
