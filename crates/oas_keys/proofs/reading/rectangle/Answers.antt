use Rattle.std.proofs.Common.{[], ◌++◌, ◌∙◌}
use Rattle.oas_elements.specs.declared.element.Element.TheVariants.{Rectangle}
use Rattle.oas_keys.specs.Numbers.{unsigned_key, signed_key}
use Rattle.oas_keys.proofs.KindLemmas.{ends, step_is, rectangle_steps}
use Rattle.oas_keys.proofs.reading.rectangle.Goals as goal

pub unsigned_pair-layer-requires : goal.unsigned_pair-layer-requires
unsigned_pair-layer-requires c =
    let r = c.requires in
    (r.0, r.1, unsigned_key r.2 ++ (unsigned_key r.3 ++ (signed_key r.4 ++ signed_key r.5)), r.6.sound.fits.layer_fits, r.6.sound.fits.datatype_fits, r.6.is)

pub unsigned_pair-size-requires : goal.unsigned_pair-size-requires
unsigned_pair-size-requires c =
    let r = c.requires in
    let a = c.unsigned_pair-layer.ensures r.0 r.1 (unsigned_key r.2 ++ (unsigned_key r.3 ++ (signed_key r.4 ++ signed_key r.5))) r.6.sound.fits.layer_fits r.6.sound.fits.datatype_fits r.6.is in
    (r.2, r.3, signed_key r.4 ++ signed_key r.5, r.6.sound.fits.width_fits, r.6.sound.fits.height_fits, a.2)

pub signed_pair-place-requires : goal.signed_pair-place-requires
signed_pair-place-requires c =
    let r = c.requires in
    let a = c.unsigned_pair-layer.ensures r.0 r.1 (unsigned_key r.2 ++ (unsigned_key r.3 ++ (signed_key r.4 ++ signed_key r.5))) r.6.sound.fits.layer_fits r.6.sound.fits.datatype_fits r.6.is in
    let b = c.unsigned_pair-size.ensures r.2 r.3 (signed_key r.4 ++ signed_key r.5) r.6.sound.fits.width_fits r.6.sound.fits.height_fits a.2 in
    let s = rectangle_steps r.0 r.1 r.2 r.3 r.4 r.5 r.6.sound in
    (r.4, r.5, [], s.across, s.up, b.2 ∙ ends (signed_key r.4) (signed_key r.5))

pub returns : goal.returns
returns c layer datatype width height x y h =
    let a = c.unsigned_pair-layer.ensures layer datatype (unsigned_key width ++ (unsigned_key height ++ (signed_key x ++ signed_key y))) h.sound.fits.layer_fits h.sound.fits.datatype_fits h.is in
    let b = c.unsigned_pair-size.ensures width height (signed_key x ++ signed_key y) h.sound.fits.width_fits h.sound.fits.height_fits a.2 in
    let s = rectangle_steps layer datatype width height x y h.sound in
    let p = c.signed_pair-place.ensures x y [] s.across s.up (b.2 ∙ ends (signed_key x) (signed_key y)) in
    let px = step_is c.signed_pair-place.result.0 x s.across p.0 in
    let py = step_is c.signed_pair-place.result.1 y s.up p.1 in
    λ i. Rectangle (a.0 i) (a.1 i) (b.0 i) (b.1 i) (px i) (py i)
