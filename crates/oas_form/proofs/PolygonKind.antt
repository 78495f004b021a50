-- What is proved about polygons: their records as they are read, what these draw, and the canonical record of one.
use Rattle.std.proofs.Common.{◌≡◌, ℕ, ◌-◌, ◌<◌, ◌≤◌, ◌^◌, true, false, List, ◌∷◌, ◌++◌, length, Some, refl, sym, ap, arith, append_assoc, ◌+◌, Option, subst, ◌∙◌, ◌*◌, None, []}
use Rattle.std.specs.Prelude.{nat_lt, IfSome}
use Rattle.std.specs.List.{list_all}
use Rattle.std.proofs.lemmas.Bool.{le-ltb}
use Rattle.oas_num.specs.Grammar.{IsPair}
use Rattle.oas_num.specs.Style.{Shortest, Any}
use Rattle.oas_num.specs.Writing.{shortest}
use Rattle.oas_ring.specs.declared.point.Point.{Point}
use Rattle.oas_shape.specs.declared.list_use.ListUse.TheVariants as uses
use Rattle.oas_record.specs.Info.{info_in}
use Rattle.oas_record.specs.Polygons.{IsPolygonInfo, IsCanonicalPolygon, polygon_in}
use Rattle.oas_elements.specs.Grid.{is_grid_point}
use Rattle.oas_elements.specs.Sound.{FitsPolygon, IsSound, Fits}
use Rattle.oas_form.specs.Records.{line_of, spot_of, element_record}
use Rattle.oas_form.specs.Bytes.{points_bytes, element_bytes}
use Rattle.oas_record.specs.declared.records.Record.TheVariants as record_of
use Rattle.oas_record.specs.Records.{record_in}
use Rattle.oas_elements.specs.Weight.{weight_of, lacks_points}
use Rattle.oas_form.specs.Spelling.{HasPoint}
use Rattle.oas_file.specs.GivenFields.{given_fields}
use Rattle.oas_shape.specs.Polylines.{Polyline, vertices_of}
use Rattle.oas_file.specs.Drawn.TheVariants.{Named}
use Rattle.oas_file.specs.Modal.{ModalState, stepped}
use Rattle.oas_file.specs.Drawing.{polygon_at, drawn_at}
use Rattle.oas_shape.specs.Steps.{still}
use Rattle.oas_elements.specs.declared.limits.Limits.{Limits}
use Rattle.oas_file.specs.Reasons.{is_on_grid, draw_reason}
use Rattle.oas_record.specs.Polygons as polygons
use Rattle.oas_record.specs.declared.polygons.Polygon.{Polygon as OnePolygon}
use Rattle.oas_elements.specs.declared.element.Element.TheVariants.{Polygon}
use Rattle.oas_file.specs.Kind.TheVariants as kinds
use Rattle.oas_form.proofs.ElementSpelling.{Inner, info_byte}
use Rattle.oas_form.proofs.FieldsFit.{number_fits}
use Rattle.oas_form.proofs.FieldsGiven.{Small, FieldsFit, fit, small, moved_fits}
use Rattle.oas_form.proofs.DrawnFits.{DrawnFits}
use Rattle.oas_form.proofs.Lengths.{length-points, length-numbers}
use Rattle.oas_form.proofs.DrawnAgain.{vertices_again, landed, stands_at}
use Rattle.oas_form.proofs.OneAllowed.{IsFine, none_wrong, first_part}
use Rattle.oas_form.proofs.KindLemmas.{IsDrawn, point_at}
use Rattle.oas_form.proofs.OfElement.{OfElement}
use Rattle.oas_form.proofs.FieldSpelling.{layers_spelled, ring_spelled}
use Rattle.oas_form.proofs.ShortFields.{given, length-walk, listed, spot_is, walk}

-- ---- as it is read

-- its fields fit, in any style
pub fields_given : (p : OnePolygon) (bytes : List ℕ) → polygon_in Any p bytes → FieldsFit (given_fields (record_of.Polygon p))
fields_given p bytes h =
    let f = h.spelled.second in
    moved_fits record_of.Polygon _ p h.is (fit tt tt tt tt (small _ h.from.1.0.0 _ f.first.first) (small _ h.from.1.0.1 _ f.first.second) tt tt tt tt)

-- in the shortest style it is the record of an element
pub polygon_is : (u : ℕ × polygons.PolygonFields) (bytes : List ℕ) → IsPair (info_in polygons.IsPolygonInfo polygons.IsCanonicalPolygon Shortest) (polygons.polygon_fields Shortest) u bytes →
    IsDrawn (record_of.Polygon (polygons.polygon_of u))
polygon_is u bytes h =
    let f = subst (λ (info : ℕ). polygons.polygon_fields Shortest info u.1 h.back) h.first.holds.1 h.second in
    let layer = given _ _ _ f.first.first in
    let datatype = given _ _ _ f.first.second in
    let line = given _ _ _ f.second.first in
    let spot = spot_is _ _ f.second.second in
    let start = point_at spot.x spot.y in
    let points = start ∷ walk start line.value.deltas in
    let line_is : ◌≡◌ {A = Option Polyline} (Some (line_of points)) u.1.1.0 = ap (λ (v : Polyline). Some v) (listed uses.Polygon line.value _ start line.spelled) ∙ line.is in
    record {
      element = Polygon layer.value datatype.value points;
      is = λ i. record_of.Polygon (record { layer = layer.is i; datatype = datatype.is i; points = line_is i; spot = spot.is i });
      points = le-ltb (length points) 3 (omega (arith, length-walk start line.value.deltas, line.spelled.fits.0));
    }

-- ---- as it is drawn

-- what is drawn from fields that fit has fields that fit
pub drawn_fits : (a b : Option ℕ) (line : Option Polyline) (at : Point) → IfSome a Small → IfSome b Small → IfSome (polygon_at a b line at) DrawnFits
drawn_fits None b line at p q = tt
drawn_fits (Some a) None line at p q = tt
drawn_fits (Some a) (Some b) None at p q = tt
drawn_fits (Some a) (Some b) (Some line) at p q = record { layer_fits = p; datatype_fits = q }

-- ---- its canonical record

polygon_spelled : (layer datatype : ℕ) (points : List Point) → FitsPolygon layer datatype → nat_lt (length points) 3 ≡ false → list_all is_grid_point points ≡ true → length points < 2 ^ 64
    → polygon_in Shortest (record { layer = Some layer; datatype = Some datatype; points = Some (line_of points); spot = spot_of points })
    (0x3B ∷ (shortest layer ++ (shortest datatype ++ points_bytes points)))
polygon_spelled layer datatype points h enough inside few = record {
  from = (0x3B, ((Some layer, Some datatype), (Some (line_of points), spot_of points)));
  is = refl;
  spelled = record {
    front = 0x3B ∷ [];
    back = shortest layer ++ (shortest datatype ++ points_bytes points);
    first = info_byte IsPolygonInfo IsCanonicalPolygon 0x3B (omega arith) refl (omega arith);
    joined = refl;
    second = record {
      front = shortest layer ++ shortest datatype;
      back = points_bytes points;
      first = layers_spelled layer datatype h.layer_fits h.datatype_fits;
      second = ring_spelled points enough inside few;
      joined = sym (append_assoc (shortest layer) (shortest datatype) (points_bytes points));
    };
  };
}

spelled_fits : (p : OnePolygon) (layer datatype : ℕ) (bytes : List ℕ) → p.layer ≡ Some layer → p.datatype ≡ Some datatype → polygon_in Shortest p bytes → FitsPolygon layer datatype
spelled_fits p layer datatype bytes l d h =
    let f = h.spelled.second in
    record {
      layer_fits = number_fits _ h.from.1.0.0 layer _ (ap (λ (q : OnePolygon). q.layer) h.is ∙ l) f.first.first;
      datatype_fits = number_fits _ h.from.1.0.1 datatype _ (ap (λ (q : OnePolygon). q.datatype) h.is ∙ d) f.first.second;
    }

same_fields : (a b : OnePolygon) → record_of.Polygon a ≡ record_of.Polygon b → a ≡ b
same_fields a b e = cc

element_fits : (layer datatype : ℕ) (points : List Point) (bytes : List ℕ) → record_in Shortest false (element_record (Polygon layer datatype points)) bytes → Fits (Polygon layer datatype points)
element_fits layer datatype points bytes h =
    let s = h.parts.second in
    let e = same_fields s.from _ s.is in
    spelled_fits s.from layer datatype _ (ap (λ (p : OnePolygon). p.layer) e) (ap (λ (p : OnePolygon). p.datatype) e) s.spelled

drawn_again : (layer datatype : ℕ) (points : List Point) (m : ModalState) → m.relative ≡ false → lacks_points (Polygon layer datatype points) ≡ false →
    drawn_at (stepped m (element_record (Polygon layer datatype points))) (element_record (Polygon layer datatype points)) still ≡ Some (Named (Polygon layer datatype points))
drawn_again layer datatype [] m absolute h = absurd cc
drawn_again layer datatype (p ∷ ps) m absolute h =
    ap (λ (at : Point). Some (Named (Polygon layer datatype (vertices_of (line_of (p ∷ ps)) at)))) (stands_at m.relative m.geometry p absolute)
    ∙ ap (λ (points : List Point). Some (Named (Polygon layer datatype points))) (vertices_again p ps)

allowed_once : (limits : Limits) (count weight : ℕ) (m : ModalState) (layer datatype : ℕ) (points : List Point) → m.relative ≡ false →
    IsFine limits count weight (stepped m (element_record (Polygon layer datatype points))) (Polygon layer datatype points) →
    draw_reason limits count weight (stepped m (element_record (Polygon layer datatype points))) (element_record (Polygon layer datatype points)) ≡ None
allowed_once limits count weight m layer datatype [] absolute h = let lacks = h.points in absurd cc
allowed_once limits count weight m layer datatype (p ∷ ps) absolute h = none_wrong _ _ _ _ _ h _
    (ap is_on_grid (landed m.relative m.geometry p absolute) ∙ first_part (is_grid_point p) (list_all is_grid_point ps) h.inside)

length-record : (layer datatype : ℕ) (points : List Point) → HasPoint (Polygon layer datatype points) → length (element_bytes (Polygon layer datatype points)) ≤ 64 * weight_of (Polygon layer datatype points)
length-record layer datatype points h = omega (arith, length-numbers layer datatype (points_bytes points), length-points points)

inner_record : (layer datatype : ℕ) (points : List Point) → IsSound (Polygon layer datatype points) → weight_of (Polygon layer datatype points) ≤ 2 ^ 30 → Inner (element_record (Polygon layer datatype points)) (element_bytes (Polygon layer datatype points))
inner_record layer datatype points h light =
    record { inner = λ e. cc; small = omega arith; rest = _; is = refl; after = record { from = _; is = refl; spelled = polygon_spelled layer datatype points h.fits h.points h.inside (omega arith) } }

pub of_polygon : (layer datatype : ℕ) (points : List Point) → OfElement (Polygon layer datatype points)
of_polygon layer datatype points = record {
  kind = kinds.Polygon;
  is = refl;
  once = refl;
  drawn = drawn_again layer datatype points;
  allowed = λ limits count weight m. allowed_once limits count weight m layer datatype points;
  inner = inner_record layer datatype points;
  fits = element_fits layer datatype points;
  short = length-record layer datatype points;
}
