use Rattle.std.proofs.Common.{[], ◌++◌, ◌∙◌}
use Rattle.oas_elements.specs.declared.element.Element.TheVariants.{Circle}
use Rattle.oas_keys.specs.Numbers.{unsigned_key, signed_key}
use Rattle.oas_keys.proofs.KindLemmas.{ends, step_is, circle_steps}
use Rattle.oas_keys.proofs.reading.circle.Goals as goal

pub unsigned_pair-layer-requires : goal.unsigned_pair-layer-requires
unsigned_pair-layer-requires c =
    let r = c.requires in
    (r.0, r.1, unsigned_key r.2 ++ (signed_key r.3 ++ signed_key r.4), r.5.sound.fits.layer_fits, r.5.sound.fits.datatype_fits, r.5.is)

pub unsigned-radius-requires : goal.unsigned-radius-requires
unsigned-radius-requires c =
    let r = c.requires in
    let a = c.unsigned_pair-layer.ensures r.0 r.1 (unsigned_key r.2 ++ (signed_key r.3 ++ signed_key r.4)) r.5.sound.fits.layer_fits r.5.sound.fits.datatype_fits r.5.is in
    (r.2, signed_key r.3 ++ signed_key r.4, r.5.sound.fits.radius_fits, a.2)

pub signed_pair-place-requires : goal.signed_pair-place-requires
signed_pair-place-requires c =
    let r = c.requires in
    let a = c.unsigned_pair-layer.ensures r.0 r.1 (unsigned_key r.2 ++ (signed_key r.3 ++ signed_key r.4)) r.5.sound.fits.layer_fits r.5.sound.fits.datatype_fits r.5.is in
    let b = c.unsigned-radius.ensures r.2 (signed_key r.3 ++ signed_key r.4) r.5.sound.fits.radius_fits a.2 in
    let s = circle_steps r.0 r.1 r.2 r.3 r.4 r.5.sound in
    (r.3, r.4, [], s.across, s.up, b.1 ∙ ends (signed_key r.3) (signed_key r.4))

pub returns : goal.returns
returns c layer datatype radius x y h =
    let a = c.unsigned_pair-layer.ensures layer datatype (unsigned_key radius ++ (signed_key x ++ signed_key y)) h.sound.fits.layer_fits h.sound.fits.datatype_fits h.is in
    let b = c.unsigned-radius.ensures radius (signed_key x ++ signed_key y) h.sound.fits.radius_fits a.2 in
    let s = circle_steps layer datatype radius x y h.sound in
    let p = c.signed_pair-place.ensures x y [] s.across s.up (b.1 ∙ ends (signed_key x) (signed_key y)) in
    let px = step_is c.signed_pair-place.result.0 x s.across p.0 in
    let py = step_is c.signed_pair-place.result.1 y s.up p.1 in
    λ i. Circle (a.0 i) (a.1 i) (b.0 i) (px i) (py i)
