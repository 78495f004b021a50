-- What is proved about circles: their records as they are read, what these draw, and the canonical record of one.
use Rattle.std.proofs.Common.{◌≡◌, ℕ, ◌-◌, ◌≤◌, ◌^◌, true, false, List, ◌∷◌, ◌++◌, length, Some, refl, sym, ap, arith, append_assoc, ◌+◌, Option, subst, ◌∙◌, ◌*◌, None, length-append, ◌&&◌, []}
use Rattle.std.specs.Prelude.{ℤ, nat_le, IfSome}
use Rattle.std.proofs.lemmas.Bool.{and_parts}
use Rattle.oas_num.specs.Grammar.{IsPair}
use Rattle.oas_num.specs.Style.{Shortest, IsShortest, Any}
use Rattle.oas_num.specs.Laws.StyleLaws.{shortest-IsShortest}
use Rattle.oas_num.specs.Writing.{shortest}
use Rattle.oas_ring.specs.declared.point.Point.{Point}
use Rattle.oas_record.specs.Info.{info_in}
use Rattle.oas_record.specs.Circles.{IsCircleInfo, IsCanonicalCircle, circle_in}
use Rattle.oas_elements.specs.Grid.{is_coordinate}
use Rattle.oas_elements.specs.Sound.{FitsCircle, IsSound, Fits}
use Rattle.oas_form.specs.Records.{spot_at, element_record}
use Rattle.oas_form.specs.Bytes.{place_bytes, element_bytes}
use Rattle.oas_record.specs.declared.records.Record.TheVariants as record_of
use Rattle.oas_record.specs.Records.{record_in}
use Rattle.oas_elements.specs.Weight.{weight_of, lacks_points}
use Rattle.oas_form.specs.Spelling.{HasPoint}
use Rattle.oas_file.specs.GivenFields.{given_fields}
use Rattle.oas_file.specs.Drawn.TheVariants.{Named}
use Rattle.oas_file.specs.Modal.{ModalState, stepped}
use Rattle.oas_file.specs.Drawing.{circle_at, drawn_at}
use Rattle.oas_shape.specs.Steps.{still}
use Rattle.oas_elements.specs.declared.limits.Limits.{Limits}
use Rattle.oas_file.specs.Reasons.{is_on_grid, draw_reason}
use Rattle.oas_record.specs.Circles as circles
use Rattle.oas_record.specs.declared.circles.Circle.{Circle as OneCircle}
use Rattle.oas_elements.specs.declared.element.Element.TheVariants.{Circle}
use Rattle.oas_file.specs.Kind.TheVariants as kinds
use Rattle.oas_form.proofs.ElementSpelling.{Inner, info_byte}
use Rattle.oas_form.proofs.FieldsFit.{number_fits}
use Rattle.oas_form.proofs.FieldsGiven.{Small, FieldsFit, fit, small, moved_fits}
use Rattle.oas_form.proofs.DrawnFits.{DrawnFits}
use Rattle.oas_form.proofs.Lengths.{length-shortest, length-place, length-numbers}
use Rattle.oas_form.proofs.DrawnAgain.{landed, stands_at}
use Rattle.oas_form.proofs.OneAllowed.{IsFine, none_wrong, last_part}
use Rattle.oas_form.proofs.KindLemmas.{IsDrawn}
use Rattle.oas_form.proofs.OfElement.{OfElement}
use Rattle.oas_form.proofs.FieldSpelling.{near, spot_spelled, layers_spelled}
use Rattle.oas_form.proofs.ShortFields.{given, spot_is}

-- ---- as it is read

-- its fields fit, in any style
pub fields_given : (c : OneCircle) (bytes : List ℕ) → circle_in Any c bytes → FieldsFit (given_fields (record_of.Circle c))
fields_given c bytes h =
    let f = h.spelled.second in
    moved_fits record_of.Circle _ c h.is (fit tt tt tt tt (small _ h.from.1.0.0 _ f.first.first) (small _ h.from.1.0.1 _ f.first.second) tt tt tt (small _ h.from.1.1.0 _ f.second.first))

-- in the shortest style it is the record of an element
pub circle_is : (u : ℕ × circles.CircleFields) (bytes : List ℕ) → IsPair (info_in circles.IsCircleInfo circles.IsCanonicalCircle Shortest) (circles.circle_fields Shortest) u bytes →
    IsDrawn (record_of.Circle (circles.circle_of u))
circle_is u bytes h =
    let f = subst (λ (info : ℕ). circles.circle_fields Shortest info u.1 h.back) h.first.holds.1 h.second in
    let layer = given _ _ _ f.first.first in
    let datatype = given _ _ _ f.first.second in
    let radius = given _ _ _ f.second.first in
    let spot = spot_is _ _ f.second.second in
    record {
      element = Circle layer.value datatype.value radius.value spot.x spot.y;
      is = λ i. record_of.Circle (record { layer = layer.is i; datatype = datatype.is i; radius = radius.is i; spot = spot.is i });
      points = refl;
    }

-- ---- as it is drawn

-- what is drawn from fields that fit has fields that fit
pub drawn_fits : (a b c : Option ℕ) (at : Point) → IfSome a Small → IfSome b Small → IfSome c Small → IfSome (circle_at a b c at) DrawnFits
drawn_fits None b c at p q r = tt
drawn_fits (Some a) None c at p q r = tt
drawn_fits (Some a) (Some b) None at p q r = tt
drawn_fits (Some a) (Some b) (Some c) at p q r = record { layer_fits = p; datatype_fits = q; radius_fits = r }

-- ---- its canonical record

circle_spelled : (layer datatype radius : ℕ) (x y : ℤ) → FitsCircle layer datatype radius → (nat_le radius (2 ^ 60) && (is_coordinate x && is_coordinate y)) ≡ true
    → circle_in Shortest (record { layer = Some layer; datatype = Some datatype; radius = Some radius; spot = spot_at x y })
    (0x3B ∷ (shortest layer ++ (shortest datatype ++ (shortest radius ++ place_bytes x y))))
circle_spelled layer datatype radius x y h inside =
    let wide = and_parts (nat_le radius (2 ^ 60)) (is_coordinate x && is_coordinate y) inside in
    let at = and_parts (is_coordinate x) (is_coordinate y) wide.1 in
    record {
      from = (0x3B, ((Some layer, Some datatype), (Some radius, spot_at x y)));
      is = refl;
      spelled = record {
        front = 0x3B ∷ [];
        back = shortest layer ++ (shortest datatype ++ (shortest radius ++ place_bytes x y));
        first = info_byte IsCircleInfo IsCanonicalCircle 0x3B (omega arith) refl (omega arith);
        joined = refl;
        second = record {
          front = shortest layer ++ shortest datatype;
          back = shortest radius ++ place_bytes x y;
          first = layers_spelled layer datatype h.layer_fits h.datatype_fits;
          joined = sym (append_assoc (shortest layer) (shortest datatype) (shortest radius ++ place_bytes x y));
          second = record { front = shortest radius; back = place_bytes x y; first = shortest-IsShortest radius h.radius_fits; second = spot_spelled x y (near x at.0) (near y at.1); joined = refl };
        };
      };
    }

spelled_fits : (p : OneCircle) (layer datatype radius : ℕ) (bytes : List ℕ) → p.layer ≡ Some layer → p.datatype ≡ Some datatype → p.radius ≡ Some radius → circle_in Shortest p bytes →
    FitsCircle layer datatype radius
spelled_fits p layer datatype radius bytes l d w h =
    let f = h.spelled.second in
    record {
      layer_fits = number_fits _ h.from.1.0.0 layer _ (ap (λ (q : OneCircle). q.layer) h.is ∙ l) f.first.first;
      datatype_fits = number_fits _ h.from.1.0.1 datatype _ (ap (λ (q : OneCircle). q.datatype) h.is ∙ d) f.first.second;
      radius_fits = number_fits _ h.from.1.1.0 radius _ (ap (λ (q : OneCircle). q.radius) h.is ∙ w) f.second.first;
    }

same_fields : (a b : OneCircle) → record_of.Circle a ≡ record_of.Circle b → a ≡ b
same_fields a b e = cc

element_fits : (layer datatype radius : ℕ) (x y : ℤ) (bytes : List ℕ) → record_in Shortest false (element_record (Circle layer datatype radius x y)) bytes → Fits (Circle layer datatype radius x y)
element_fits layer datatype radius x y bytes h =
    let s = h.parts.second in
    let e = same_fields s.from _ s.is in
    spelled_fits s.from layer datatype radius _ (ap (λ (c : OneCircle). c.layer) e) (ap (λ (c : OneCircle). c.datatype) e) (ap (λ (c : OneCircle). c.radius) e) s.spelled

drawn_again : (layer datatype radius : ℕ) (x y : ℤ) (m : ModalState) → m.relative ≡ false → lacks_points (Circle layer datatype radius x y) ≡ false →
    drawn_at (stepped m (element_record (Circle layer datatype radius x y))) (element_record (Circle layer datatype radius x y)) still ≡ Some (Named (Circle layer datatype radius x y))
drawn_again layer datatype radius x y m absolute h = ap (λ (at : Point). Some (Named (Circle layer datatype radius at.x at.y)))
    (stands_at m.relative m.geometry (record { x = x; y = y }) absolute)

allowed_once : (limits : Limits) (count weight : ℕ) (m : ModalState) (layer datatype radius : ℕ) (x y : ℤ) → m.relative ≡ false →
    IsFine limits count weight (stepped m (element_record (Circle layer datatype radius x y))) (Circle layer datatype radius x y) →
    draw_reason limits count weight (stepped m (element_record (Circle layer datatype radius x y))) (element_record (Circle layer datatype radius x y)) ≡ None
allowed_once limits count weight m layer datatype radius x y absolute h = none_wrong _ _ _ _ _ h _
    (ap is_on_grid (landed m.relative m.geometry (record { x = x; y = y }) absolute) ∙ last_part (nat_le radius (2 ^ 60)) (is_coordinate x && is_coordinate y) h.inside)

length-record : (layer datatype radius : ℕ) (x y : ℤ) → HasPoint (Circle layer datatype radius x y) → length (element_bytes (Circle layer datatype radius x y)) ≤ 64 * weight_of (Circle layer datatype radius x y)
length-record layer datatype radius x y h =
    omega (arith, length-numbers layer datatype (shortest radius ++ place_bytes x y), length-append (shortest radius) (place_bytes x y), length-shortest radius, length-place x y)

inner_record : (layer datatype radius : ℕ) (x y : ℤ) → IsSound (Circle layer datatype radius x y) → weight_of (Circle layer datatype radius x y) ≤ 2 ^ 30 → Inner (element_record (Circle layer datatype radius x y)) (element_bytes (Circle layer datatype radius x y))
inner_record layer datatype radius x y h light =
    record { inner = λ e. cc; small = omega arith; rest = _; is = refl; after = record { from = _; is = refl; spelled = circle_spelled layer datatype radius x y h.fits h.inside } }

pub of_circle : (layer datatype radius : ℕ) (x y : ℤ) → OfElement (Circle layer datatype radius x y)
of_circle layer datatype radius x y = record {
  kind = kinds.Circle;
  is = refl;
  once = refl;
  drawn = drawn_again layer datatype radius x y;
  allowed = λ limits count weight m. allowed_once limits count weight m layer datatype radius x y;
  inner = inner_record layer datatype radius x y;
  fits = element_fits layer datatype radius x y;
  short = length-record layer datatype radius x y;
}
