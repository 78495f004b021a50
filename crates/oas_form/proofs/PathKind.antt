-- What is proved about paths: their records as they are read, what these draw, and the canonical record of one.
use Rattle.std.proofs.Common.{◌≡◌, ℕ, ◌-◌, ◌<◌, ◌≤◌, ◌^◌, Bool, true, false, List, ◌∷◌, ◌++◌, length, Some, refl, sym, ap, arith, append_assoc, ◌+◌, Option, subst, ◌∙◌, ◌*◌, None, length-append, ◌&&◌, []}
use Rattle.std.specs.Prelude.{ℤ, nat_lt, nat_le, IfSome}
use Rattle.std.specs.List.{list_all}
use Rattle.std.proofs.lemmas.Bool.{and_parts, le-ltb}
use Rattle.oas_num.specs.Grammar.{IsPair}
use Rattle.oas_num.specs.Style.{Shortest, IsShortest, Any}
use Rattle.oas_num.specs.Laws.StyleLaws.{shortest-IsShortest}
use Rattle.oas_num.specs.Writing.{shortest, shortest_signed}
use Rattle.oas_num.proofs.WritingLemmas.{shortest_signed-IsShortestSigned}
use Rattle.oas_ring.specs.declared.point.Point.{Point}
use Rattle.oas_shape.specs.declared.list_use.ListUse.TheVariants as uses
use Rattle.oas_record.specs.declared.paths.Extension.TheVariants.{Explicit}
use Rattle.oas_record.specs.Info.{info_in}
use Rattle.oas_record.specs.Paths.{IsPathInfo, IsCanonicalPath, path_in, extensions_in}
use Rattle.oas_elements.specs.Grid.{is_coordinate, is_grid_point}
use Rattle.oas_elements.specs.Sound.{FitsPath, IsSound, Fits}
use Rattle.oas_form.specs.Records.{line_of, spot_of, element_record}
use Rattle.oas_form.specs.Bytes.{points_bytes, element_bytes}
use Rattle.oas_record.specs.declared.records.Record.TheVariants as record_of
use Rattle.oas_record.specs.Records.{record_in}
use Rattle.oas_elements.specs.Weight.{weight_of, lacks_points}
use Rattle.oas_form.specs.Spelling.{HasPoint}
use Rattle.oas_file.specs.GivenFields.{given_fields}
use Rattle.oas_shape.specs.Polylines.{Polyline, vertices_of}
use Rattle.oas_file.specs.Drawn.TheVariants.{Named}
use Rattle.oas_file.specs.Modal.{ModalState, stepped}
use Rattle.oas_file.specs.Drawing.{path_at, drawn_at}
use Rattle.oas_shape.specs.Steps.{still}
use Rattle.oas_elements.specs.declared.limits.Limits.{Limits}
use Rattle.oas_file.specs.Reasons.{is_on_grid, draw_reason}
use Rattle.oas_record.specs.declared.paths.Extensions.{Extensions}
use Rattle.oas_record.specs.Paths as paths
use Rattle.oas_record.specs.declared.paths.Path.{Path as OnePath}
use Rattle.oas_elements.specs.declared.element.Element.TheVariants.{Path}
use Rattle.oas_file.specs.Kind.TheVariants as kinds
use Rattle.oas_form.proofs.ElementSpelling.{Inner, info_byte}
use Rattle.oas_form.proofs.FieldsFit.{number_fits}
use Rattle.oas_form.proofs.FieldsGiven.{Small, FieldsFit, fit, small, moved_fits}
use Rattle.oas_form.proofs.DrawnFits.{DrawnFits}
use Rattle.oas_form.proofs.Lengths.{length-shortest, length-signed, length-points, length-numbers}
use Rattle.oas_form.proofs.DrawnAgain.{vertices_again, landed, stands_at}
use Rattle.oas_form.proofs.OneAllowed.{IsFine, none_wrong, first_part, last_part}
use Rattle.oas_form.proofs.KindLemmas.{IsDrawn, point_at}
use Rattle.oas_form.proofs.OfElement.{OfElement}
use Rattle.oas_form.proofs.FieldSpelling.{small_spelled, near, layers_spelled, line_spelled}
use Rattle.oas_form.proofs.ShortFields.{given, listed, spot_is, walk}

-- ---- as it is read

-- its fields fit, in any style
pub fields_given : (p : OnePath) (bytes : List ℕ) → path_in Any p bytes → FieldsFit (given_fields (record_of.Path p))
fields_given p bytes h =
    let f = h.spelled.second in
    moved_fits record_of.Path _ p h.is (fit tt tt tt tt (small _ h.from.1.0.0 _ f.first.first) (small _ h.from.1.0.1 _ f.first.second) tt tt (small _ h.from.1.1.0 _ f.second.first) tt)

-- both extensions by their numbers
record AreExplicit (extensions : Extensions) : Type 0 where
  start : ℤ
  end : ℤ
  is : ◌≡◌ {A = Extensions} (record { start = Explicit start; end = Explicit end }) extensions

explicit : (extensions : Extensions) (bytes : List ℕ) → paths.extensions_in Shortest extensions bytes → AreExplicit extensions
explicit extensions bytes h =
    let s = h.spelled in
    let f = subst (λ (scheme : ℕ). paths.numbers_in Shortest scheme h.from.1 s.back) s.first.holds.1 s.second in
    let start = given _ _ _ f.first in
    let end = given _ _ _ f.second in
    record {
      start = start.value;
      end = end.value;
      is = (λ i. paths.extensions_of (sym s.first.holds.1 i, (start.is i, end.is i))) ∙ h.is;
    }

-- in the shortest style it is the record of an element
pub path_is : (u : ℕ × paths.PathFields) (bytes : List ℕ) → IsPair (info_in paths.IsPathInfo paths.IsCanonicalPath Shortest) (paths.path_fields Shortest) u bytes →
    IsDrawn (record_of.Path (paths.path_of u))
path_is u bytes h =
    let f = subst (λ (info : ℕ). paths.path_fields Shortest info u.1 h.back) h.first.holds.1 h.second in
    let layer = given _ _ _ f.first.first in
    let datatype = given _ _ _ f.first.second in
    let half_width = given _ _ _ f.second.first in
    let both = given _ _ _ f.second.second.first in
    let ends = explicit both.value _ both.spelled in
    let ends_is : ◌≡◌ {A = Option Extensions} (Some (record { start = Explicit ends.start; end = Explicit ends.end })) u.1.1.1.0 = ap (λ (v : Extensions). Some v) ends.is ∙ both.is in
    let line = given _ _ _ f.second.second.second.first in
    let spot = spot_is _ _ f.second.second.second.second in
    let start = point_at spot.x spot.y in
    let points = start ∷ walk start line.value.deltas in
    let line_is : ◌≡◌ {A = Option Polyline} (Some (line_of points)) u.1.1.1.1.0 = ap (λ (v : Polyline). Some v) (listed uses.Path line.value _ start line.spelled) ∙ line.is in
    record {
      element = Path layer.value datatype.value half_width.value ends.start ends.end points;
      is = λ i. record_of.Path (record { layer = layer.is i; datatype = datatype.is i; half_width = half_width.is i; extensions = ends_is i; points = line_is i; spot = spot.is i });
      points = le-ltb (length points) 1 (omega arith);
    }

-- ---- as it is drawn

-- what is drawn from fields that fit has fields that fit
pub drawn_fits : (a b c : Option ℕ) (d e : Option ℤ) (line : Option Polyline) (at : Point) → IfSome a Small → IfSome b Small → IfSome c Small → IfSome (path_at a b c d e line at) DrawnFits
drawn_fits None b c d e line at p q r = tt
drawn_fits (Some a) None c d e line at p q r = tt
drawn_fits (Some a) (Some b) None d e line at p q r = tt
drawn_fits (Some a) (Some b) (Some c) None e line at p q r = tt
drawn_fits (Some a) (Some b) (Some c) (Some d) None line at p q r = tt
drawn_fits (Some a) (Some b) (Some c) (Some d) (Some e) None at p q r = tt
drawn_fits (Some a) (Some b) (Some c) (Some d) (Some e) (Some line) at p q r = record { layer_fits = p; datatype_fits = q; half_width_fits = r }

-- ---- its canonical record

ends_spelled : (start end : ℤ) → is_coordinate start ≡ true → is_coordinate end ≡ true →
    extensions_in Shortest (record { start = Explicit start; end = Explicit end }) (15 ∷ (shortest_signed start ++ shortest_signed end))
ends_spelled start end near_start near_end = record {
  from = (15, (Some start, Some end));
  is = refl;
  spelled = record {
    front = 15 ∷ [];
    back = shortest_signed start ++ shortest_signed end;
    first = record { holds = (omega arith, refl); spelled = small_spelled 15 (omega arith) };
    joined = refl;
    second = record {
      front = shortest_signed start;
      back = shortest_signed end;
      first = shortest_signed-IsShortestSigned start (omega (arith, near start near_start));
      second = shortest_signed-IsShortestSigned end (omega (arith, near end near_end));
      joined = refl;
    };
  };
}

path_spelled : (layer datatype half_width : ℕ) (start end : ℤ) (points : List Point) → FitsPath layer datatype half_width → nat_lt (length points) 1 ≡ false
    → (nat_le half_width (2 ^ 60) && (is_coordinate start && (is_coordinate end && list_all is_grid_point points))) ≡ true → length points < 2 ^ 64
    → path_in Shortest (record {
      layer = Some layer;
      datatype = Some datatype;
      half_width = Some half_width;
      extensions = Some
          (record { start = Explicit start; end = Explicit end });
      points = Some (line_of points);
      spot = spot_of points;
    })
    (0xFB ∷ (shortest layer ++ (shortest datatype ++ (shortest half_width ++ (15 ∷ (shortest_signed start ++ (shortest_signed end ++ points_bytes points)))))))
path_spelled layer datatype half_width start end points h enough inside few =
    let wide = and_parts (nat_le half_width (2 ^ 60)) (is_coordinate start && (is_coordinate end && list_all is_grid_point points)) inside in
    let begins = and_parts (is_coordinate start) (is_coordinate end && list_all is_grid_point points) wide.1 in
    let ends = and_parts (is_coordinate end) (list_all is_grid_point points) begins.1 in
    record {
      from = (0xFB, ((Some layer, Some datatype), (Some half_width, (Some (record { start = Explicit start; end = Explicit end }), (Some (line_of points), spot_of points)))));
      is = refl;
      spelled = record {
        front = 0xFB ∷ [];
        back = shortest layer ++ (shortest datatype ++ (shortest half_width ++ (15 ∷ (shortest_signed start ++ (shortest_signed end ++ points_bytes points)))));
        first = info_byte IsPathInfo IsCanonicalPath 0xFB (omega arith) refl (omega arith);
        joined = refl;
        second = record {
          front = shortest layer ++ shortest datatype;
          back = shortest half_width ++ (15 ∷ (shortest_signed start ++ (shortest_signed end ++ points_bytes points)));
          first = layers_spelled layer datatype h.layer_fits h.datatype_fits;
          joined = sym (append_assoc (shortest layer) (shortest datatype) (shortest half_width ++ (15 ∷ (shortest_signed start ++ (shortest_signed end ++ points_bytes points)))));
          second = record {
            front = shortest half_width;
            back = 15 ∷ (shortest_signed start ++ (shortest_signed end ++ points_bytes points));
            first = shortest-IsShortest half_width h.half_width_fits;
            joined = refl;
            second = record {
              front = 15 ∷ (shortest_signed start ++ shortest_signed end);
              back = points_bytes points;
              first = ends_spelled start end begins.0 ends.0;
              second = line_spelled points enough ends.1 few;
              joined = ap (λ (bytes : List ℕ). 15 ∷ bytes) (sym (append_assoc (shortest_signed start) (shortest_signed end) (points_bytes points)));
            };
          };
        };
      };
    }

spelled_fits : (p : OnePath) (layer datatype half_width : ℕ) (bytes : List ℕ) → p.layer ≡ Some layer → p.datatype ≡ Some datatype → p.half_width ≡ Some half_width →
    path_in Shortest p bytes → FitsPath layer datatype half_width
spelled_fits p layer datatype half_width bytes l d w h =
    let f = h.spelled.second in
    record {
      layer_fits = number_fits _ h.from.1.0.0 layer _ (ap (λ (q : OnePath). q.layer) h.is ∙ l) f.first.first;
      datatype_fits = number_fits _ h.from.1.0.1 datatype _ (ap (λ (q : OnePath). q.datatype) h.is ∙ d) f.first.second;
      half_width_fits = number_fits _ h.from.1.1.0 half_width _ (ap (λ (q : OnePath). q.half_width) h.is ∙ w) f.second.first;
    }

same_fields : (a b : OnePath) → record_of.Path a ≡ record_of.Path b → a ≡ b
same_fields a b e = cc

element_fits : (layer datatype half_width : ℕ) (start end : ℤ) (points : List Point) (bytes : List ℕ) → record_in Shortest false (element_record (Path layer datatype half_width start end points)) bytes → Fits (Path layer datatype half_width start end points)
element_fits layer datatype half_width start end points bytes h =
    let s = h.parts.second in
    let e = same_fields s.from _ s.is in
    spelled_fits s.from layer datatype half_width _ (ap (λ (p : OnePath). p.layer) e) (ap (λ (p : OnePath). p.datatype) e) (ap (λ (p : OnePath). p.half_width) e) s.spelled

drawn_again : (layer datatype half_width : ℕ) (start end : ℤ) (points : List Point) (m : ModalState) → m.relative ≡ false → lacks_points (Path layer datatype half_width start end points) ≡ false →
    drawn_at (stepped m (element_record (Path layer datatype half_width start end points))) (element_record (Path layer datatype half_width start end points)) still ≡ Some (Named (Path layer datatype half_width start end points))
drawn_again layer datatype half_width start end [] m absolute h = absurd cc
drawn_again layer datatype half_width start end (p ∷ ps) m absolute h =
    ap (λ (at : Point). Some (Named (Path layer datatype half_width start end (vertices_of (line_of (p ∷ ps)) at)))) (stands_at m.relative m.geometry p absolute)
    ∙ ap (λ (points : List Point). Some (Named (Path layer datatype half_width start end points))) (vertices_again p ps)

fourth_part : (a b c d e : Bool) → (a && (b && (c && (d && e)))) ≡ true → d ≡ true
fourth_part a b c d e h = first_part d e (last_part c (d && e) (last_part b (c && (d && e)) (last_part a (b && (c && (d && e))) h)))

allowed_once : (limits : Limits) (count weight : ℕ) (m : ModalState) (layer datatype half_width : ℕ) (start end : ℤ) (points : List Point) → m.relative ≡ false →
    IsFine limits count weight (stepped m (element_record (Path layer datatype half_width start end points))) (Path layer datatype half_width start end points) →
    draw_reason limits count weight (stepped m (element_record (Path layer datatype half_width start end points))) (element_record (Path layer datatype half_width start end points)) ≡ None
allowed_once limits count weight m layer datatype half_width start end [] absolute h = let lacks = h.points in absurd cc
allowed_once limits count weight m layer datatype half_width start end (p ∷ ps) absolute h = none_wrong _ _ _ _ _ h _
    (ap is_on_grid (landed m.relative m.geometry p absolute)
    ∙ fourth_part (nat_le half_width (2 ^ 60)) (is_coordinate start) (is_coordinate end) (is_grid_point p) (list_all is_grid_point ps) h.inside)

length-path : (layer datatype half_width : ℕ) (start end : ℤ) (points : List Point) → 0 < length points →
    length (element_bytes (Path layer datatype half_width start end points)) ≤ 64 * weight_of (Path layer datatype half_width start end points)
length-path layer datatype half_width start end points some =
    let p = points_bytes points in
    let e = shortest_signed end ++ p in
    let s = shortest_signed start ++ e in
    omega (
      arith,
      length-numbers layer datatype (shortest half_width ++ (15 ∷ s)),
      length-append (shortest half_width) (15 ∷ s),
      length-append (shortest_signed start) e,
      length-append (shortest_signed end) p,
      length-shortest half_width,
      length-signed start,
      length-signed end,
      length-points points,
    )

length-record : (layer datatype half_width : ℕ) (start end : ℤ) (points : List Point) → HasPoint (Path layer datatype half_width start end points) → length (element_bytes (Path layer datatype half_width start end points)) ≤ 64 * weight_of (Path layer datatype half_width start end points)
length-record layer datatype half_width start end points h = length-path layer datatype half_width start end points h

inner_record : (layer datatype half_width : ℕ) (start end : ℤ) (points : List Point) → IsSound (Path layer datatype half_width start end points) → weight_of (Path layer datatype half_width start end points) ≤ 2 ^ 30 → Inner (element_record (Path layer datatype half_width start end points)) (element_bytes (Path layer datatype half_width start end points))
inner_record layer datatype half_width start end points h light = record {
  inner = λ e. cc;
  small = omega arith;
  rest = _;
  is = refl;
  after = record { from = _; is = refl; spelled = path_spelled layer datatype half_width start end points h.fits h.points h.inside (omega arith) };
}

pub of_path : (layer datatype half_width : ℕ) (start end : ℤ) (points : List Point) → OfElement (Path layer datatype half_width start end points)
of_path layer datatype half_width start end points = record {
  kind = kinds.Path;
  is = refl;
  once = refl;
  drawn = drawn_again layer datatype half_width start end points;
  allowed = λ limits count weight m. allowed_once limits count weight m layer datatype half_width start end points;
  inner = inner_record layer datatype half_width start end points;
  fits = element_fits layer datatype half_width start end points;
  short = length-record layer datatype half_width start end points;
}
