-- How a judge of a file goes on with a polygon or a path that is at hand.
use Rattle.std.proofs.Common.{◌≡◌, ℕ, ℤ, IsTrue, false, List, [], ◌∷◌, map, Option, None, Some, refl, sym, ap, subst, ◌∙◌, append-nil, arith}
use Rattle.std.proofs.lemmas.Int.{ints}
use Rattle.std.specs.Prelude.{pos, ◌+ℤ◌, ◌-ℤ◌, take}
use Rattle.oas_num.specs.declared.deltas.GDelta.{GDelta}
use Rattle.oas_ring.specs.declared.point.Point.{Point}
use Rattle.oas_shape.specs.Steps.{still, added, moved, sums_after}
use Rattle.oas_shape.specs.Polylines.{Polyline, vertices_of}
use Rattle.oas_shape.specs.PointLists.{plain_line}
use Rattle.oas_shape.specs.declared.repetitions.RepField.{RepField}
use Rattle.oas_record.specs.declared.records.Record.TheVariants as record_of
use Rattle.oas_record.specs.declared.records.Record.{Record}
use Rattle.oas_record.specs.declared.paths.Extension.{Extension}
use Rattle.oas_record.specs.declared.paths.Extension.TheVariants.{Explicit, Modal, Flush, Half}
use Rattle.oas_record.specs.declared.paths.Extensions.{Extensions}
use Rattle.oas_peek.specs.declared.figures.PeekedFigure.{PeekedFigure}
use Rattle.oas_peek.specs.Figures.{HasPlainList, IsPeekedFigure}
use Rattle.oas_elements.specs.declared.element.Element.{Element}
use Rattle.oas_elements.specs.declared.element.Element.TheVariants.{Polygon, Path}
use Rattle.oas_writing.specs.Drawn.TheVariants.{Named}
use Rattle.oas_writing.specs.Drawing.{polygon_at, path_at}
use Rattle.oas_writing.specs.Bytes.{element_bytes}
use Rattle.oas_writing.specs.Records.{element_record, line_of, first_of, steps_from}
use Rattle.oas_writing.specs.FormJudge.{FormJudge}
use Rattle.oas_writing.specs.Judging.{GoesOnDrawing}
use Rattle.oas_judge.specs.Peeked.{IsFigureBy}
use Rattle.oas_judge.specs.FileJudges.{holds, GoesOnTaking}
use Rattle.oas_judge.specs.Own.{point_if, drawn_there, number_given, start_given, end_given, own_drawn}
use Rattle.oas_judge.specs.declared.candidates.Candidate.TheVariants as candidates
use Rattle.oas_judge.specs.declared.judge.FileJudge.{FileJudge}
use Rattle.oas_judge.proofs.JudgeSteps.{bytes_so, goes_on_drawn}

-- ---- the steps between the vertices of a plain list are its own

back : (at before by : ℤ) → (at +ℤ (before +ℤ by)) -ℤ (at +ℤ before) ≡ by
back at before by = omega (arith, ints)

steps_back : (at : Point) (before : GDelta) (ds : List GDelta) → steps_from (moved at before) (map (moved at) (sums_after before ds)) ≡ ds
steps_back at before [] = refl
steps_back at before (d ∷ ds) = λ i. (record { dx = back at.x before.dx d.dx i; dy = back at.y before.dy d.dy i }) ∷ steps_back at (added before d) ds i

stays : (p : Point) → moved p still ≡ p
stays p = λ i. record { x = same p.x i; y = same p.y i } where
  same : (x : ℤ) → x +ℤ pos 0 ≡ x
  same x = omega (arith, ints)

vertices_plain : (ds : List GDelta) (at : Point) → vertices_of (plain_line ds) at ≡ moved at still ∷ map (moved at) (sums_after still ds)
vertices_plain ds at = append-nil (moved at still ∷ map (moved at) (sums_after still ds))

line_back : (ds : List GDelta) (at : Point) → line_of (vertices_of (plain_line ds) at) ≡ plain_line ds
line_back ds at = ap line_of (vertices_plain ds at) ∙ ap plain_line (steps_back at still ds)

first_back : (ds : List GDelta) (at : Point) → first_of (vertices_of (plain_line ds) at) ≡ at
first_back ds at = ap first_of (vertices_plain ds at) ∙ stays at

-- ---- so its record is that of the element

one_polygon : (layer datatype : ℕ) (ds : List GDelta) (x y : ℤ) → element_record (Polygon layer datatype (vertices_of (plain_line ds) (record { x = x; y = y })))
    ≡ record_of.Polygon (record { layer = Some layer; datatype = Some datatype; points = Some (plain_line ds); spot = (record { x = Some x; y = Some y; repetition = None }) })
one_polygon layer datatype ds x y = λ i.
    record_of.Polygon (record {
      layer = Some layer;
      datatype = Some datatype;
      points = Some (line_back ds (record { x = x; y = y }) i);
      spot = (record { x = Some (first_back ds (record { x = x; y = y }) i).x; y = Some (first_back ds (record { x = x; y = y }) i).y; repetition = None });
    })

polygon_so : (layer datatype : Option ℕ) (points : Option Polyline) (x y : Option ℤ) (repetition : Option RepField) (e : Element)
    → ((line : Polyline) → points ≡ Some line → line ≡ plain_line line.deltas) → drawn_there (point_if x y repetition) (polygon_at layer datatype points) ≡ Some (Named e)
    → element_record e ≡ record_of.Polygon (record { layer = layer; datatype = datatype; points = points; spot = (record { x = x; y = y; repetition = repetition }) })
polygon_so (Some layer) (Some datatype) (Some line) (Some x) (Some y) None e plain is =
    let made : Polygon layer datatype (vertices_of line (record { x = x; y = y })) ≡ e = cc in
    subst (λ (f : Element). element_record f ≡ record_of.Polygon (record { layer = Some layer; datatype = Some datatype; points = Some line; spot = (record { x = Some x; y = Some y; repetition = None }) })) made
    (subst (λ (l : Polyline). element_record (Polygon layer datatype (vertices_of l (record { x = x; y = y })))
    ≡ record_of.Polygon (record { layer = Some layer; datatype = Some datatype; points = Some l; spot = (record { x = Some x; y = Some y; repetition = None }) })) (sym (plain line refl))
    (one_polygon layer datatype line.deltas x y))
polygon_so None datatype points (Some x) (Some y) None e plain is = absurd cc
polygon_so (Some layer) None points (Some x) (Some y) None e plain is = absurd cc
polygon_so (Some layer) (Some datatype) None (Some x) (Some y) None e plain is = absurd cc
polygon_so layer datatype points None y repetition e plain is = absurd cc
polygon_so layer datatype points (Some x) None repetition e plain is = absurd cc
polygon_so layer datatype points (Some x) (Some y) (Some repetition) e plain is = absurd cc

-- ---- and so is that of a path

number_so : (x : Extension) (z : ℤ) → number_given x ≡ Some z → x ≡ Explicit z
number_so (Explicit y) z is = let same : y ≡ z = cc in ap Explicit same
number_so Modal z is = absurd cc
number_so Flush z is = absurd cc
number_so Half z is = absurd cc

both_so : (extensions : Option Extensions) (start end : ℤ) → start_given extensions ≡ Some start → end_given extensions ≡ Some end → extensions ≡ Some (record { start = Explicit start; end = Explicit end })
both_so None start end first second = absurd cc
both_so (Some both) start end first second = λ i. Some (record { start = number_so both.start start first i; end = number_so both.end end second i })

-- the record with these fields
abbrev path_with : ℕ → ℕ → ℕ → Option Extensions → Polyline → ℤ → ℤ → Record
path_with layer datatype half_width extensions line x y =
    record_of.Path (record {
      layer = Some layer;
      datatype = Some datatype;
      half_width = Some half_width;
      extensions = extensions;
      points = Some line;
      spot = (record { x = Some x; y = Some y; repetition = None });
    })

one_path : (layer datatype half_width : ℕ) (start end : ℤ) (ds : List GDelta) (x y : ℤ)
    → element_record (Path layer datatype half_width start end (vertices_of (plain_line ds) (record { x = x; y = y })))
    ≡ path_with layer datatype half_width (Some (record { start = Explicit start; end = Explicit end })) (plain_line ds) x y
one_path layer datatype half_width start end ds x y = λ i.
    record_of.Path (record {
      layer = Some layer;
      datatype = Some datatype;
      half_width = Some half_width;
      extensions = Some (record { start = Explicit start; end = Explicit end });
      points = Some (line_back ds (record { x = x; y = y }) i);
      spot = (record { x = Some (first_back ds (record { x = x; y = y }) i).x; y = Some (first_back ds (record { x = x; y = y }) i).y; repetition = None });
    })

path_so : (layer datatype half_width : Option ℕ) (start end : Option ℤ) (points : Option Polyline) (x y : Option ℤ) (repetition : Option RepField) (extensions : Option Extensions) (e : Element)
    → start_given extensions ≡ start → end_given extensions ≡ end → ((line : Polyline) → points ≡ Some line → line ≡ plain_line line.deltas)
    → drawn_there (point_if x y repetition) (path_at layer datatype half_width start end points) ≡ Some (Named e)
    → element_record e
    ≡ record_of.Path (record { layer = layer; datatype = datatype; half_width = half_width; extensions = extensions; points = points; spot = (record { x = x; y = y; repetition = repetition }) })
path_so (Some layer) (Some datatype) (Some half_width) (Some start) (Some end) (Some line) (Some x) (Some y) None extensions e first second plain is =
    let made : Path layer datatype half_width start end (vertices_of line (record { x = x; y = y })) ≡ e = cc in
    subst (λ (f : Element). element_record f ≡ path_with layer datatype half_width extensions line x y) made
    (subst (λ (l : Polyline). element_record (Path layer datatype half_width start end (vertices_of l (record { x = x; y = y }))) ≡ path_with layer datatype half_width extensions l x y) (sym (plain line refl))
    (one_path layer datatype half_width start end line.deltas x y
    ∙ ap (λ (both : Option Extensions). path_with layer datatype half_width both (plain_line line.deltas) x y) (sym (both_so extensions start end first second))))
path_so None datatype half_width start end points (Some x) (Some y) None extensions e first second plain is = absurd cc
path_so (Some layer) None half_width start end points (Some x) (Some y) None extensions e first second plain is = absurd cc
path_so (Some layer) (Some datatype) None start end points (Some x) (Some y) None extensions e first second plain is = absurd cc
path_so (Some layer) (Some datatype) (Some half_width) None end points (Some x) (Some y) None extensions e first second plain is = absurd cc
path_so (Some layer) (Some datatype) (Some half_width) (Some start) None points (Some x) (Some y) None extensions e first second plain is = absurd cc
path_so (Some layer) (Some datatype) (Some half_width) (Some start) (Some end) None (Some x) (Some y) None extensions e first second plain is = absurd cc
path_so layer datatype half_width start end points None y repetition extensions e first second plain is = absurd cc
path_so layer datatype half_width start end points (Some x) None repetition extensions e first second plain is = absurd cc
path_so layer datatype half_width start end points (Some x) (Some y) (Some repetition) extensions e first second plain is = absurd cc

-- ---- for either

pub figure_is : (r : Record) (e : Element) → HasPlainList r → own_drawn r ≡ Some (Named e) → element_record e ≡ r
figure_is (record_of.Polygon p) e plain is = polygon_so p.layer p.datatype p.points p.spot.x p.spot.y p.spot.repetition e plain is
figure_is (record_of.Path p) e plain is =
    path_so p.layer p.datatype p.half_width (start_given p.extensions) (end_given p.extensions) p.points p.spot.x p.spot.y p.spot.repetition p.extensions e refl refl plain is
figure_is _ e plain is = absurd plain

-- ---- a judge that holds

pub figure_drawn : (j : FileJudge) (form : FormJudge) (ahead : PeekedFigure) (e : Element) (all : List ℕ) → IsTrue (holds j) → IsPeekedFigure all ahead → IsFigureBy j.profile ahead e
    → ((bytes : List ℕ) → element_bytes e ≡ bytes → GoesOnDrawing j.form e bytes form) → GoesOnTaking (take ahead.length all) j ahead.record (record j { form = form })
figure_drawn j form ahead e all told is by step = record {
  candidate = candidates.Element e;
  says = λ told. record { element = e; drawn = by.drawn; form = by.kept; fit = by.fit };
  goes_on =
      goes_on_drawn (take ahead.length all) j form told e
      (step (take ahead.length all) (bytes_so e ahead.record (take ahead.length all) (figure_is ahead.record e (is.plain by.shortest) by.drawn) by.fit by.fits (is.shortest by.shortest false)));
}
