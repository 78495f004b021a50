-- All kinds of elements: each match on them, by the file of each kind.
use Rattle.std.proofs.Common.{ℕ, Bool, List, Option, None, Some, subst, inl, inr, refl, ap, ◌∙◌}
use Rattle.std.specs.Prelude.{IfSome}
use Rattle.std.specs.List.{AllByRecursion}
use Rattle.oas_num.specs.Style.{Any, Shortest}
use Rattle.oas_record.specs.declared.records.Record.{Record}
use Rattle.oas_record.specs.declared.records.Record.TheVariants as record_of
use Rattle.oas_record.specs.declared.references.CellRef.TheVariants as cell
use Rattle.oas_record.specs.declared.placements.Turn.{Turn}
use Rattle.oas_record.specs.declared.placements.Turn.TheVariants.{Quarters, Degrees}
use Rattle.oas_record.specs.Records.{id_of, after_id, record_in, IsInner}
use Rattle.oas_file.specs.GivenFields.{given_fields}
use Rattle.oas_num.specs.declared.deltas.GDelta.{GDelta}
use Rattle.oas_ring.specs.declared.point.Point.{Point}
use Rattle.oas_file.specs.Kind.{Kind}
use Rattle.oas_file.specs.Modal.{modal_of}
use Rattle.oas_file.specs.Turns.{turned}
use Rattle.oas_file.specs.Drawing.{kind_at, place_of, point_from, drawn_if}
use Rattle.oas_elements.specs.declared.element.Element.{Element}
use Rattle.oas_file.specs.Kind.TheVariants as kinds
use Rattle.oas_elements.specs.declared.element.Element.TheVariants.{Placement, Text, Rectangle, Polygon, Path, Circle}
use Rattle.oas_form.proofs.PlacementKind as placements
use Rattle.oas_form.proofs.TextKind as texts
use Rattle.oas_form.proofs.RectangleKind as rectangles
use Rattle.oas_form.proofs.PolygonKind as polygons
use Rattle.oas_form.proofs.PathKind as paths
use Rattle.oas_form.proofs.CircleKind as circles
use Rattle.oas_form.proofs.FieldsGiven.{Small, CellFits, StringFits, FieldsFit, fit, GivenFieldsFit}
use Rattle.oas_form.proofs.DrawnFits.{DrawnFits, field_fits, layer_fits, datatype_fits, width_fits, height_fits}
use Rattle.oas_form.proofs.KindLemmas.{IsPlain, moved_on}
use Rattle.oas_form.proofs.OfElement.{OfElement}

-- ---- elements

-- a line for each kind of element
pub of_element : (e : Element) → OfElement e
of_element (Placement name x y turns flip) = placements.of_placement name x y turns flip
of_element (Text string textlayer texttype x y) = texts.of_text string textlayer texttype x y
of_element (Rectangle layer datatype width height x y) = rectangles.of_rectangle layer datatype width height x y
of_element (Polygon layer datatype points) = polygons.of_polygon layer datatype points
of_element (Path layer datatype half_width start end points) = paths.of_path layer datatype half_width start end points
of_element (Circle layer datatype radius x y) = circles.of_circle layer datatype radius x y

-- ---- records

-- and the fields
pub fields_after : (in_end : Bool) (r : Record) (bytes : List ℕ) → after_id Any in_end (id_of r) r bytes → FieldsFit (given_fields r)
fields_after in_end (record_of.Placement p) bytes h = by p.turn h where
  by : (turn : Turn) → after_id Any in_end (elim turn [ Quarters turns ↦ 17 | Degrees magnification angle ↦ 18 ]) (record_of.Placement p) bytes → FieldsFit (given_fields (record_of.Placement p))
  by (Quarters turns) s = subst (λ (r : Record). FieldsFit (given_fields r)) s.is (placements.quarters_given s.from bytes s.spelled)
  by (Degrees magnification angle) s = subst (λ (r : Record). FieldsFit (given_fields r)) s.is (placements.degrees_given s.from bytes s.spelled)
fields_after in_end (record_of.Text t) bytes h = subst (λ (r : Record). FieldsFit (given_fields r)) h.is (texts.fields_given h.from bytes h.spelled)
fields_after in_end (record_of.Rectangle r) bytes h = subst (λ (r : Record). FieldsFit (given_fields r)) h.is (rectangles.fields_given h.from bytes h.spelled)
fields_after in_end (record_of.Polygon p) bytes h = subst (λ (r : Record). FieldsFit (given_fields r)) h.is (polygons.fields_given h.from bytes h.spelled)
fields_after in_end (record_of.Path p) bytes h = subst (λ (r : Record). FieldsFit (given_fields r)) h.is (paths.fields_given h.from bytes h.spelled)
fields_after in_end (record_of.Circle c) bytes h = subst (λ (r : Record). FieldsFit (given_fields r)) h.is (circles.fields_given h.from bytes h.spelled)
fields_after in_end _ bytes h = fit tt tt tt tt tt tt tt tt tt tt

-- A record in the shortest style; of a kind that no canonical file has there is none.
pub plain_of : (in_end : Bool) (r : Record) (bytes : List ℕ) → IsInner r → record_in Shortest in_end r bytes → IsPlain r
plain_of in_end record_of.End bytes inner h = absurd (inner refl)
plain_of in_end (record_of.CellName name None) bytes inner h = absurd h.parts.second
plain_of in_end (record_of.CellName name (Some number)) bytes inner h = absurd h.parts.second
plain_of in_end (record_of.TextString label None) bytes inner h = absurd h.parts.second
plain_of in_end (record_of.TextString label (Some number)) bytes inner h = absurd h.parts.second
plain_of in_end (record_of.Cell (cell.Number number)) bytes inner h = absurd h.parts.second
plain_of in_end (record_of.Cell (cell.Name name)) bytes inner h = inl (name, refl)
plain_of in_end (record_of.Placement p) bytes inner h = inr (placements.placement_is in_end p p.turn h.parts.back h.parts.second)
plain_of in_end (record_of.Text t) bytes inner h = let s = h.parts.second in inr (moved_on _ _ (ap (λ v. record_of.Text v) s.spelled.is ∙ s.is) (texts.text_is s.spelled.from h.parts.back s.spelled.spelled))
plain_of in_end (record_of.Rectangle r) bytes inner h = let s = h.parts.second in
    inr (moved_on _ _ (ap (λ v. record_of.Rectangle v) s.spelled.is ∙ s.is) (rectangles.rectangle_is s.spelled.from h.parts.back s.spelled.spelled))
plain_of in_end (record_of.Polygon p) bytes inner h = let s = h.parts.second in
    inr (moved_on _ _ (ap (λ v. record_of.Polygon v) s.spelled.is ∙ s.is) (polygons.polygon_is s.spelled.from h.parts.back s.spelled.spelled))
plain_of in_end (record_of.Path p) bytes inner h = let s = h.parts.second in inr (moved_on _ _ (ap (λ v. record_of.Path v) s.spelled.is ∙ s.is) (paths.path_is s.spelled.from h.parts.back s.spelled.spelled))
plain_of in_end (record_of.Circle c) bytes inner h = let s = h.parts.second in
    inr (moved_on _ _ (ap (λ v. record_of.Circle v) s.spelled.is ∙ s.is) (circles.circle_is s.spelled.from h.parts.back s.spelled.spelled))
plain_of in_end _ bytes inner h = absurd h.parts.second

-- ---- what is drawn

module _ (rs : List Record) (h : AllByRecursion GivenFieldsFit rs) where
  pub kind_fits : (kind : Kind) (at : Point) → IfSome (kind_at (modal_of rs) kind at) DrawnFits
  kind_fits (kinds.Placement turn flip) at = placements.drawn_fits _ (turned turn) flip at (field_fits rs h CellFits (λ g. g.cell) (λ r f. f.cell))
  kind_fits kinds.Text at =
      texts.drawn_fits _ _ _ at (field_fits rs h StringFits (λ g. g.string) (λ r f. f.string)) (field_fits rs h Small (λ g. g.textlayer) (λ r f. f.textlayer))
      (field_fits rs h Small (λ g. g.texttype) (λ r f. f.texttype))
  kind_fits kinds.Rectangle at = rectangles.drawn_fits _ _ _ _ at (layer_fits rs h) (datatype_fits rs h) (width_fits rs h) (height_fits rs h)
  kind_fits kinds.Polygon at = polygons.drawn_fits _ _ _ at (layer_fits rs h) (datatype_fits rs h)
  kind_fits kinds.Path at = paths.drawn_fits _ _ _ _ _ _ at (layer_fits rs h) (datatype_fits rs h) (field_fits rs h Small (λ g. g.half_width) (λ r f. f.half_width))
  kind_fits kinds.Circle at = circles.drawn_fits _ _ _ at (layer_fits rs h) (datatype_fits rs h) (field_fits rs h Small (λ g. g.radius) (λ r f. f.radius))

  drawn_fits_if : (kind : Option Kind) (d : GDelta) → IfSome (drawn_if (modal_of rs) kind d) DrawnFits
  drawn_fits_if None d = tt
  drawn_fits_if (Some kind) d = kind_fits kind (point_from (place_of (modal_of rs) kind) d)
