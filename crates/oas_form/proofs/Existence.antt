-- Each accepted file has a canonical form: its meaning, put in order, and written.
use Rattle.std.proofs.Common.{◌≡◌, ℕ, ◌<◌, ◌^◌, Bool, true, false, ◌&&◌, List, [], ◌∷◌, Option, None, Some, refl, sym, subst, arith}
use Rattle.std.proofs.lemmas.Int.{ints}
use Rattle.std.specs.Prelude.{ℤ, pos, ◌+ℤ◌}
use Rattle.std.specs.List.{AllByRecursion}
use Rattle.std.specs.Map.{keys_of}
use Rattle.std.specs.declared.cmp.Ordering.TheVariants.{Less, Equal, Greater}
use Rattle.std.specs.FinMap.Entries.{by_order, put}
use Rattle.oas_num.specs.Texts.{IsName}
use Rattle.oas_ring.specs.declared.point.Point.{Point}
use Rattle.oas_ring.specs.declared.rectangles.Corners.{Corners}
use Rattle.oas_ring.specs.Readings.{least_of}
use Rattle.oas_elements.specs.declared.profile.Profile.{Profile}
use Rattle.oas_elements.specs.declared.element.Element.{Element}
use Rattle.oas_elements.specs.declared.element.Element.TheVariants.{Polygon, Rectangle}
use Rattle.oas_elements.specs.Grid.{is_coordinate, reaches, fits_grid}
use Rattle.oas_elements.specs.Bag.{items}
use Rattle.oas_elements.specs.Same.{drawn_box, normal_polygon, normal}
use Rattle.oas_elements.specs.Sound.{IsSound, Fits, FitsPolygon}
use Rattle.oas_elements.specs.Meaning.{Meaning}
use Rattle.oas_elements.proofs.LawProofs.{symmetric}
use Rattle.oas_elements.proofs.Order.{sound-put_more}
use Rattle.oas_elements.proofs.Sealed.{name_cmp}
use Rattle.oas_elements.proofs.SoundLemmas.{lacks_points-normal, fits_grid-normal}
use Rattle.oas_file.specs.Stands.{records_mean}
use Rattle.oas_form.specs.Records.{Cells}
use Rattle.oas_form.specs.Bytes.{canonical_bytes}
use Rattle.oas_form.specs.Canonical.{IsCanonicalOf, SameExactly}
use Rattle.oas_form.specs.Layouts.{HasCanonicalForm, LimitsTogether, FormFitsInput}
use Rattle.oas_form.proofs.DrawnSound.{IsSoundMeaning, records_sound}
use Rattle.oas_form.proofs.Forms.{limits_apart, forms_equal}
use Rattle.oas_form.proofs.Held.{form_length}
use Rattle.oas_form.proofs.OrderedLayouts.{all-items}
use Rattle.oas_form.proofs.Sizes.{tally, all_put, ordered, is_ordered, in_order, in_order_same, ordered_count, ordered_weight}
use Rattle.oas_form.proofs.Written.{form_of}

-- ---- the kept form of a sound element is sound

both : (a b : Bool) → (a && b) ≡ true → (a ≡ true) × (b ≡ true)
both true b h = (refl, h)
both false b h = absurd cc

-- a side between two coordinates is a number of 64 bits
short : (x : ℤ) (side : ℕ) → is_coordinate x ≡ true → is_coordinate (x +ℤ pos side) ≡ true → side < 2 ^ 64
short x side h k = grind (arith, ints)

sides_fit : (layer datatype width height : ℕ) (x y : ℤ) → FitsPolygon layer datatype → fits_grid (Rectangle layer datatype width height x y) ≡ true → Fits (Rectangle layer datatype width height x y)
sides_fit layer datatype width height x y f h =
    let b = both (reaches x width) (reaches y height) h in
    let wide = both (is_coordinate x) (is_coordinate (x +ℤ pos width)) b.0 in
    let tall = both (is_coordinate y) (is_coordinate (y +ℤ pos height)) b.1 in
    record { layer_fits = f.layer_fits; datatype_fits = f.datatype_fits; width_fits = short x width wide.0 wide.1; height_fits = short y height tall.0 tall.1 }

polygon_fits : (layer datatype : ℕ) (points : List Point) (o : Option Corners) → FitsPolygon layer datatype → fits_grid (normal_polygon layer datatype points o) ≡ true →
    Fits (normal_polygon layer datatype points o)
polygon_fits layer datatype points None f h = f
polygon_fits layer datatype points (Some c) f h = sides_fit layer datatype _ _ c.low.x c.low.y f h

module _ (profile : Profile) where
  normal_fits : (e : Element) → Fits e → fits_grid (normal profile e) ≡ true → Fits (normal profile e)
  normal_fits (Polygon layer datatype points) f h = polygon_fits layer datatype (least_of points) (drawn_box profile points) f h
  normal_fits e f h = f

  pub normal_sound : (e : Element) → IsSound e → IsSound (normal profile e)
  normal_sound e h =
      let inside = fits_grid-normal profile e h.inside in
      record { points = lacks_points-normal profile e h.points; inside = inside; fits = normal_fits e h.fits inside }

  -- ---- sound cells are sound in order

  tally_sound : (xs : List Element) → AllByRecursion IsSound xs → AllByRecursion (λ p. IsSound p.0) (tally profile xs)
  tally_sound [] h = tt
  tally_sound (x ∷ xs) h = sound-put_more (tally profile xs) (normal profile x) 1 (normal_sound x h.0) (tally_sound xs h.1)

  sound_keys : (es : List (Element × ℕ)) → AllByRecursion (λ p. IsSound p.0) es → AllByRecursion IsSound (keys_of es)
  sound_keys [] h = tt
  sound_keys (e ∷ es) h = (h.0, sound_keys es h.1)

  items_sound : (xs : List Element) → AllByRecursion IsSound xs → AllByRecursion IsSound (items (tally profile xs))
  items_sound xs h = all-items IsSound (tally profile xs) (sound_keys (tally profile xs) (tally_sound xs h))

  cells_sound : (cs : Cells) → AllByRecursion (λ c. AllByRecursion IsSound c.1) cs → AllByRecursion (λ c. AllByRecursion IsSound c.1) (ordered profile cs)
  cells_sound [] h = tt
  cells_sound (c ∷ cs) h = all_put (AllByRecursion IsSound) c.0 (items (tally profile c.1)) (ordered profile cs) (items_sound c.1 h.0) (cells_sound cs h.1)

  names_put : (k : List ℕ) (v : List Element) (cs : Cells) → IsName k → AllByRecursion (λ c. IsName c.0) cs → AllByRecursion (λ c. IsName c.0) (put name_cmp k v cs)
  names_put k v [] h all = (h, tt)
  names_put k v (c ∷ cs) h all =
      elim (name_cmp k c.0) as (λ r. AllByRecursion (λ c. IsName c.0) (by_order r ((k, v) ∷ c ∷ cs) ((c.0, v) ∷ cs) (c ∷ put name_cmp k v cs))) [
        | Less ↦ (h, all)
        | Equal ↦ all
        | Greater ↦ (all.0, names_put k v cs h all.1)
      ]

  names_fit : (cs : Cells) → AllByRecursion (λ c. IsName c.0) cs → AllByRecursion (λ c. IsName c.0) (ordered profile cs)
  names_fit [] h = tt
  names_fit (c ∷ cs) h = names_put c.0 (items (tally profile c.1)) (ordered profile cs) h.0 (names_fit cs h.1)

-- ---- the canonical form

pub has_canonical_form : HasCanonicalForm
has_canonical_form limits profile b h =
    let m : Meaning = records_mean h.head.unit h.records in
    let s : IsSoundMeaning limits (records_mean h.head.unit h.records) = records_sound limits b h in
    let lighter = ordered_weight profile m.cells s.once in
    let form = form_of limits profile (in_order profile m) (record {
      unit = s.spellable.unit;
      names = names_fit profile m.cells s.spellable.names;
      sound = cells_sound profile m.cells s.spellable.sound;
      light = omega (arith, lighter, s.light, limits.light);
    }) (is_ordered profile m.cells) (omega (arith, ordered_count profile m.cells s.once, s.few)) (omega (arith, lighter, s.light)) in (
      canonical_bytes (in_order profile m),
      record {
        form = form.0;
        source = m;
        target = in_order profile m;
        means = record { head = h.head; records = h.records; file = h.file; is = refl };
        becomes = form.1;
        same = symmetric profile (in_order profile m) m (in_order_same profile m);
      },
    )

-- under other limits that accept the file too, it is the same
pub limits_together : LimitsTogether
limits_together one other profile b c h p =
    let found = has_canonical_form other profile b h in
    subst (IsCanonicalOf other profile b) (sym (limits_apart one other profile b c found.0 p found.1)) found.1

-- it is no longer than an input may be
pub form_fits_input : FormFitsInput
form_fits_input limits profile b c h p =
    let s = records_sound limits b h in
    let long = form_length limits profile b c (records_mean h.head.unit h.records) h p (record { head = h.head; records = h.records; file = h.file; is = refl }) in
    omega (arith, long, s.light, limits.room)

-- files that mean the same have one form, and files that have one mean the same
pub same_exactly : SameExactly
same_exactly one other profile b d m n h k p q =
    let c = has_canonical_form one profile b h in
    let e = has_canonical_form other profile d k in (
      λ s. (c.0, c.1, subst (IsCanonicalOf other profile d) (sym ((forms_equal one other profile b d c.0 e.0 m n c.1 e.1 p q).0 s)) e.1),
      λ f. (forms_equal one other profile b d f.0 f.0 m n f.1 f.2 p q).1 refl,
    )
