use Rattle.std.proofs.Common.{[], ◌++◌}
use Rattle.oas_elements.specs.declared.element.Element.TheVariants.{Placement}
use Rattle.oas_keys.specs.Numbers.{signed_key}
use Rattle.oas_keys.specs.Keys.{turned_key}
use Rattle.oas_keys.specs.Laws.KeyLaws.{name_bytes}
use Rattle.oas_keys.proofs.KindLemmas.{step_is, placement_steps}
use Rattle.oas_keys.proofs.reading.placement.Goals as goal

pub text-cell-requires : goal.text-cell-requires
text-cell-requires c =
    let r = c.requires in
    (r.0, signed_key r.1 ++ (signed_key r.2 ++ turned_key r.3 r.4), name_bytes r.0 r.5.sound.fits.class, r.5.is)

pub signed_pair-place-requires : goal.signed_pair-place-requires
signed_pair-place-requires c =
    let r = c.requires in
    let a = c.text-cell.ensures r.0 (signed_key r.1 ++ (signed_key r.2 ++ turned_key r.3 r.4)) (name_bytes r.0 r.5.sound.fits.class) r.5.is in
    let s = placement_steps r.0 r.1 r.2 r.3 r.4 r.5.sound in
    (r.1, r.2, turned_key r.3 r.4, s.across, s.up, a.1)

pub turned-turned-requires : goal.turned-turned-requires
turned-turned-requires c =
    let r = c.requires in
    let a = c.text-cell.ensures r.0 (signed_key r.1 ++ (signed_key r.2 ++ turned_key r.3 r.4)) (name_bytes r.0 r.5.sound.fits.class) r.5.is in
    let s = placement_steps r.0 r.1 r.2 r.3 r.4 r.5.sound in
    let b = c.signed_pair-place.ensures r.1 r.2 (turned_key r.3 r.4) s.across s.up a.1 in
    (r.3, r.4, [], b.2)

pub returns : goal.returns
returns c cell x y turns flip h =
    let a = c.text-cell.ensures cell (signed_key x ++ (signed_key y ++ turned_key turns flip)) (name_bytes cell h.sound.fits.class) h.is in
    let s = placement_steps cell x y turns flip h.sound in
    let b = c.signed_pair-place.ensures x y (turned_key turns flip) s.across s.up a.1 in
    let t = c.turned-turned.ensures turns flip [] b.2 in
    let px = step_is c.signed_pair-place.result.0 x s.across b.0 in
    let py = step_is c.signed_pair-place.result.1 y s.up b.1 in
    λ i. Placement (a.0 i) (px i) (py i) (t.0 i) (t.1 i)
