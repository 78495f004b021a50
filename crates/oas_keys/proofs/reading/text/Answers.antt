use Rattle.std.proofs.Common.{[], ◌++◌, ◌∙◌}
use Rattle.oas_elements.specs.declared.element.Element.TheVariants.{Text}
use Rattle.oas_keys.specs.Numbers.{unsigned_key, signed_key}
use Rattle.oas_keys.specs.Laws.KeyLaws.{label_bytes}
use Rattle.oas_keys.proofs.KindLemmas.{ends, step_is, text_steps}
use Rattle.oas_keys.proofs.reading.text.Goals as goal

pub text-string-requires : goal.text-string-requires
text-string-requires c =
    let r = c.requires in
    (r.0, unsigned_key r.1 ++ (unsigned_key r.2 ++ (signed_key r.3 ++ signed_key r.4)), label_bytes r.0 r.5.sound.fits.string_fits.class, r.5.is)

pub unsigned_pair-layer-requires : goal.unsigned_pair-layer-requires
unsigned_pair-layer-requires c =
    let r = c.requires in
    let a = c.text-string.ensures r.0 (unsigned_key r.1 ++ (unsigned_key r.2 ++ (signed_key r.3 ++ signed_key r.4))) (label_bytes r.0 r.5.sound.fits.string_fits.class) r.5.is in
    (r.1, r.2, signed_key r.3 ++ signed_key r.4, r.5.sound.fits.textlayer_fits, r.5.sound.fits.texttype_fits, a.1)

pub signed_pair-place-requires : goal.signed_pair-place-requires
signed_pair-place-requires c =
    let r = c.requires in
    let a = c.text-string.ensures r.0 (unsigned_key r.1 ++ (unsigned_key r.2 ++ (signed_key r.3 ++ signed_key r.4))) (label_bytes r.0 r.5.sound.fits.string_fits.class) r.5.is in
    let b = c.unsigned_pair-layer.ensures r.1 r.2 (signed_key r.3 ++ signed_key r.4) r.5.sound.fits.textlayer_fits r.5.sound.fits.texttype_fits a.1 in
    let s = text_steps r.0 r.1 r.2 r.3 r.4 r.5.sound in
    (r.3, r.4, [], s.across, s.up, b.2 ∙ ends (signed_key r.3) (signed_key r.4))

pub returns : goal.returns
returns c string textlayer texttype x y h =
    let a = c.text-string.ensures string (unsigned_key textlayer ++ (unsigned_key texttype ++ (signed_key x ++ signed_key y))) (label_bytes string h.sound.fits.string_fits.class) h.is in
    let b = c.unsigned_pair-layer.ensures textlayer texttype (signed_key x ++ signed_key y) h.sound.fits.textlayer_fits h.sound.fits.texttype_fits a.1 in
    let s = text_steps string textlayer texttype x y h.sound in
    let p = c.signed_pair-place.ensures x y [] s.across s.up (b.2 ∙ ends (signed_key x) (signed_key y)) in
    let px = step_is c.signed_pair-place.result.0 x s.across p.0 in
    let py = step_is c.signed_pair-place.result.1 y s.up p.1 in
    λ i. Text (a.0 i) (b.0 i) (b.1 i) (px i) (py i)
