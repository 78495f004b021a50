-- What is proved about rectangles: their records as they are read, what these draw, and the canonical record of one.
use Rattle.std.proofs.Common.{◌≡◌, ℕ, ◌-◌, ◌≤◌, ◌^◌, Bool, true, false, List, ◌∷◌, ◌++◌, length, Some, refl, sym, ap, arith, append_assoc, ◌+◌, Option, subst, ◌∙◌, ◌*◌, None, ◌&&◌, []}
use Rattle.std.specs.Prelude.{ℤ, IfSome, pos, ◌+ℤ◌}
use Rattle.std.proofs.lemmas.Bool.{and_parts}
use Rattle.oas_num.specs.Grammar.{IsPair}
use Rattle.oas_num.specs.Style.{Shortest, IsShortest, Any}
use Rattle.oas_num.specs.Laws.StyleLaws.{shortest-IsShortest}
use Rattle.oas_num.specs.Writing.{shortest}
use Rattle.oas_ring.specs.declared.point.Point.{Point}
use Rattle.oas_record.specs.Info.{has, info_in}
use Rattle.oas_record.specs.Rectangles.{IsRectangleInfo, IsCanonicalRectangle, rectangle_in}
use Rattle.oas_elements.specs.Grid.{is_coordinate, reaches}
use Rattle.oas_elements.specs.Sound.{FitsRectangle, IsSound, Fits}
use Rattle.oas_form.specs.Records.{spot_at, element_record}
use Rattle.oas_form.specs.Bytes.{place_bytes, element_bytes}
use Rattle.oas_record.specs.declared.records.Record.TheVariants as record_of
use Rattle.oas_record.specs.Records.{record_in}
use Rattle.oas_elements.specs.Weight.{weight_of, lacks_points}
use Rattle.oas_form.specs.Spelling.{HasPoint}
use Rattle.oas_file.specs.GivenFields.{given_fields}
use Rattle.oas_file.specs.Drawn.TheVariants.{Named}
use Rattle.oas_file.specs.Modal.{ModalState, stepped}
use Rattle.oas_file.specs.Drawing.{rectangle_at, drawn_at}
use Rattle.oas_shape.specs.Steps.{still}
use Rattle.oas_elements.specs.declared.limits.Limits.{Limits}
use Rattle.oas_file.specs.Reasons.{is_on_grid, draw_reason}
use Rattle.oas_record.specs.Rectangles as rectangles
use Rattle.oas_record.specs.declared.rectangles.Rectangle.{Rectangle as OneRectangle}
use Rattle.oas_elements.specs.declared.element.Element.TheVariants.{Rectangle}
use Rattle.oas_file.specs.Kind.TheVariants as kinds
use Rattle.oas_form.proofs.ElementSpelling.{Inner, info_byte}
use Rattle.oas_form.proofs.FieldsFit.{number_fits}
use Rattle.oas_form.proofs.FieldsGiven.{Small, FieldsFit, fit, small, moved_fits}
use Rattle.oas_form.proofs.DrawnFits.{DrawnFits}
use Rattle.oas_form.proofs.Lengths.{length-place, length-numbers}
use Rattle.oas_form.proofs.DrawnAgain.{landed, stands_at}
use Rattle.oas_form.proofs.OneAllowed.{IsFine, none_wrong}
use Rattle.oas_form.proofs.KindLemmas.{IsDrawn}
use Rattle.oas_form.proofs.OfElement.{OfElement}
use Rattle.oas_form.proofs.FieldSpelling.{near, reaching, spot_spelled, layers_spelled}
use Rattle.oas_form.proofs.ShortFields.{given, spot_is}

-- ---- as it is read

-- its fields fit, in any style
pub fields_given : (r : OneRectangle) (bytes : List ℕ) → rectangle_in Any r bytes → FieldsFit (given_fields (record_of.Rectangle r))
fields_given r bytes h =
    let f = h.spelled.second in
    moved_fits record_of.Rectangle _ r h.is (fit tt tt tt tt (small _ h.from.1.0.0 _ f.first.first) (small _ h.from.1.0.1 _ f.first.second) (small _ h.from.1.1.0 _ f.second.first) (small _ h.from.1.1.1.0 _ f.second.second.first) tt tt)

-- in the shortest style it is the record of an element
pub rectangle_is : (u : ℕ × rectangles.RectangleFields) (bytes : List ℕ) →
    IsPair (info_in rectangles.IsRectangleInfo rectangles.IsCanonicalRectangle Shortest) (rectangles.rectangle_fields Shortest) u bytes → IsDrawn (record_of.Rectangle (rectangles.rectangle_of u))
rectangle_is u bytes h =
    let f = subst (λ (info : ℕ). rectangles.rectangle_fields Shortest info u.1 h.back) h.first.holds.1 h.second in
    let square : false ≡ has u.0 128 = ap (λ (info : ℕ). has info 128) (sym h.first.holds.1) in
    let layer = given _ _ _ f.first.first in
    let datatype = given _ _ _ f.first.second in
    let width = given _ _ _ f.second.first in
    let height = given _ _ _ f.second.second.first in
    let spot = spot_is _ _ f.second.second.second in
    record {
      element = Rectangle layer.value datatype.value width.value height.value spot.x spot.y;
      is = λ i. record_of.Rectangle (record { square = square i; layer = layer.is i; datatype = datatype.is i; width = width.is i; height = height.is i; spot = spot.is i });
      points = refl;
    }

-- ---- as it is drawn

-- what is drawn from fields that fit has fields that fit
pub drawn_fits : (a b c d : Option ℕ) (at : Point) → IfSome a Small → IfSome b Small → IfSome c Small → IfSome d Small → IfSome (rectangle_at a b c d at) DrawnFits
drawn_fits None b c d at p q r s = tt
drawn_fits (Some a) None c d at p q r s = tt
drawn_fits (Some a) (Some b) None d at p q r s = tt
drawn_fits (Some a) (Some b) (Some c) None at p q r s = tt
drawn_fits (Some a) (Some b) (Some c) (Some d) at p q r s = record { layer_fits = p; datatype_fits = q; width_fits = r; height_fits = s }

-- ---- its canonical record

box_spelled : (layer datatype width height : ℕ) (x y : ℤ) → FitsRectangle layer datatype width height → (reaches x width && reaches y height) ≡ true
    → rectangle_in Shortest (record { square = false; layer = Some layer; datatype = Some datatype; width = Some width; height = Some height; spot = spot_at x y })
    (0x7B ∷ (shortest layer ++ (shortest datatype ++ (shortest width ++ (shortest height ++ place_bytes x y)))))
box_spelled layer datatype width height x y h inside =
    let at = and_parts (reaches x width) (reaches y height) inside in
    record {
      from = (0x7B, ((Some layer, Some datatype), (Some width, (Some height, spot_at x y))));
      is = refl;
      spelled = record {
        front = 0x7B ∷ [];
        back = shortest layer ++ (shortest datatype ++ (shortest width ++ (shortest height ++ place_bytes x y)));
        first = info_byte IsRectangleInfo IsCanonicalRectangle 0x7B (λ e. absurd (omega (arith, e))) refl (omega arith);
        joined = refl;
        second = record {
          front = shortest layer ++ shortest datatype;
          back = shortest width ++ (shortest height ++ place_bytes x y);
          first = layers_spelled layer datatype h.layer_fits h.datatype_fits;
          joined = sym (append_assoc (shortest layer) (shortest datatype) (shortest width ++ (shortest height ++ place_bytes x y)));
          second = record {
            front = shortest width;
            back = shortest height ++ place_bytes x y;
            first = shortest-IsShortest width h.width_fits;
            joined = refl;
            second = record {
              front = shortest height;
              back = place_bytes x y;
              first = shortest-IsShortest height h.height_fits;
              second = spot_spelled x y (near x (reaching x width at.0)) (near y (reaching y height at.1));
              joined = refl;
            };
          };
        };
      };
    }

spelled_fits : (r : OneRectangle) (layer datatype width height : ℕ) (bytes : List ℕ) → r.layer ≡ Some layer → r.datatype ≡ Some datatype → r.width ≡ Some width →
    r.height ≡ Some height → rectangle_in Shortest r bytes → FitsRectangle layer datatype width height
spelled_fits r layer datatype width height bytes l d w t h =
    let f = h.spelled.second in
    record {
      layer_fits = number_fits _ h.from.1.0.0 layer _ (ap (λ (q : OneRectangle). q.layer) h.is ∙ l) f.first.first;
      datatype_fits = number_fits _ h.from.1.0.1 datatype _ (ap (λ (q : OneRectangle). q.datatype) h.is ∙ d) f.first.second;
      width_fits = number_fits _ h.from.1.1.0 width _ (ap (λ (q : OneRectangle). q.width) h.is ∙ w) f.second.first;
      height_fits = number_fits _ h.from.1.1.1.0 height _ (ap (λ (q : OneRectangle). q.height) h.is ∙ t) f.second.second.first;
    }

same_fields : (a b : OneRectangle) → record_of.Rectangle a ≡ record_of.Rectangle b → a ≡ b
same_fields a b e = cc

element_fits : (layer datatype width height : ℕ) (x y : ℤ) (bytes : List ℕ) → record_in Shortest false (element_record (Rectangle layer datatype width height x y)) bytes → Fits (Rectangle layer datatype width height x y)
element_fits layer datatype width height x y bytes h =
    let s = h.parts.second in
    let e = same_fields s.from _ s.is in
    spelled_fits s.from layer datatype width height _ (ap (λ (r : OneRectangle). r.layer) e) (ap (λ (r : OneRectangle). r.datatype) e) (ap (λ (r : OneRectangle). r.width) e)
    (ap (λ (r : OneRectangle). r.height) e) s.spelled

drawn_again : (layer datatype width height : ℕ) (x y : ℤ) (m : ModalState) → m.relative ≡ false → lacks_points (Rectangle layer datatype width height x y) ≡ false →
    drawn_at (stepped m (element_record (Rectangle layer datatype width height x y))) (element_record (Rectangle layer datatype width height x y)) still ≡ Some (Named (Rectangle layer datatype width height x y))
drawn_again layer datatype width height x y m absolute h = ap (λ (at : Point). Some (Named (Rectangle layer datatype width height at.x at.y)))
    (stands_at m.relative m.geometry (record { x = x; y = y }) absolute)

first_parts : (a b c d : Bool) → ((a && b) && (c && d)) ≡ true → (a && c) ≡ true
first_parts true true true d e = refl
first_parts true true false d e = e
first_parts true false c d e = absurd cc
first_parts false b c d e = e

allowed_once : (limits : Limits) (count weight : ℕ) (m : ModalState) (layer datatype width height : ℕ) (x y : ℤ) → m.relative ≡ false →
    IsFine limits count weight (stepped m (element_record (Rectangle layer datatype width height x y))) (Rectangle layer datatype width height x y) →
    draw_reason limits count weight (stepped m (element_record (Rectangle layer datatype width height x y))) (element_record (Rectangle layer datatype width height x y)) ≡ None
allowed_once limits count weight m layer datatype width height x y absolute h =
    none_wrong _ _ _ _ _ h _ (ap is_on_grid (landed m.relative m.geometry (record { x = x; y = y }) absolute)
    ∙ first_parts (is_coordinate x) (is_coordinate (x +ℤ pos width)) (is_coordinate y) (is_coordinate (y +ℤ pos height)) h.inside)

length-record : (layer datatype width height : ℕ) (x y : ℤ) → HasPoint (Rectangle layer datatype width height x y) → length (element_bytes (Rectangle layer datatype width height x y)) ≤ 64 * weight_of (Rectangle layer datatype width height x y)
length-record layer datatype width height x y h =
    omega (arith, length-numbers layer datatype (shortest width ++ (shortest height ++ place_bytes x y)), length-numbers width height (place_bytes x y), length-place x y)

inner_record : (layer datatype width height : ℕ) (x y : ℤ) → IsSound (Rectangle layer datatype width height x y) → weight_of (Rectangle layer datatype width height x y) ≤ 2 ^ 30 → Inner (element_record (Rectangle layer datatype width height x y)) (element_bytes (Rectangle layer datatype width height x y))
inner_record layer datatype width height x y h light =
    record { inner = λ e. cc; small = omega arith; rest = _; is = refl; after = record { from = _; is = refl; spelled = box_spelled layer datatype width height x y h.fits h.inside } }

pub of_rectangle : (layer datatype width height : ℕ) (x y : ℤ) → OfElement (Rectangle layer datatype width height x y)
of_rectangle layer datatype width height x y = record {
  kind = kinds.Rectangle;
  is = refl;
  once = refl;
  drawn = drawn_again layer datatype width height x y;
  allowed = λ limits count weight m. allowed_once limits count weight m layer datatype width height x y;
  inner = inner_record layer datatype width height x y;
  fits = element_fits layer datatype width height x y;
  short = length-record layer datatype width height x y;
}
