use Rattle.std.proofs.Common.{◌++◌, ◌∙◌}
use Rattle.oas_ring.specs.Points.{origin}
use Rattle.oas_elements.specs.declared.element.Element.TheVariants.{Path}
use Rattle.oas_keys.specs.Numbers.{unsigned_key, signed_key}
use Rattle.oas_keys.specs.Keys.{points_key}
use Rattle.oas_keys.proofs.KindLemmas.{step_is, path_steps}
use Rattle.oas_keys.proofs.PointLemmas.{has_points}
use Rattle.oas_keys.proofs.reading.path.Goals as goal

pub unsigned_pair-layer-requires : goal.unsigned_pair-layer-requires
unsigned_pair-layer-requires c =
    let r = c.requires in
    (r.0, r.1, unsigned_key r.2 ++ (signed_key r.3 ++ (signed_key r.4 ++ points_key origin r.5)), r.6.sound.fits.layer_fits, r.6.sound.fits.datatype_fits, r.6.is)

pub unsigned-half_width-requires : goal.unsigned-half_width-requires
unsigned-half_width-requires c =
    let r = c.requires in
    let a = c.unsigned_pair-layer.ensures r.0 r.1 (unsigned_key r.2 ++ (signed_key r.3 ++ (signed_key r.4 ++ points_key origin r.5))) r.6.sound.fits.layer_fits r.6.sound.fits.datatype_fits r.6.is in
    (r.2, signed_key r.3 ++ (signed_key r.4 ++ points_key origin r.5), r.6.sound.fits.half_width_fits, a.2)

pub signed_pair-ends-requires : goal.signed_pair-ends-requires
signed_pair-ends-requires c =
    let r = c.requires in
    let a = c.unsigned_pair-layer.ensures r.0 r.1 (unsigned_key r.2 ++ (signed_key r.3 ++ (signed_key r.4 ++ points_key origin r.5))) r.6.sound.fits.layer_fits r.6.sound.fits.datatype_fits r.6.is in
    let b = c.unsigned-half_width.ensures r.2 (signed_key r.3 ++ (signed_key r.4 ++ points_key origin r.5)) r.6.sound.fits.half_width_fits a.2 in
    let s = path_steps r.0 r.1 r.2 r.3 r.4 r.5 r.6.sound in
    (r.3, r.4, points_key origin r.5, s.first, s.last, b.1)

pub returns : goal.returns
returns c layer datatype half_width start end points h =
    let a = c.unsigned_pair-layer.ensures layer datatype (unsigned_key half_width ++ (signed_key start ++ (signed_key end ++ points_key origin points))) h.sound.fits.layer_fits h.sound.fits.datatype_fits h.is in
    let b = c.unsigned-half_width.ensures half_width (signed_key start ++ (signed_key end ++ points_key origin points)) h.sound.fits.half_width_fits a.2 in
    let s = path_steps layer datatype half_width start end points h.sound in
    let d = c.signed_pair-ends.ensures start end (points_key origin points) s.first s.last b.1 in
    let px = step_is c.signed_pair-ends.result.0 start s.first d.0 in
    let py = step_is c.signed_pair-ends.result.1 end s.last d.1 in
    (points, has_points c.of.result points s.within (c.of.ensures.left ∙ d.2) c.of.ensures.before, λ i. Path (a.0 i) (a.1 i) (b.0 i) (px i) (py i) points)
