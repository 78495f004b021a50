-- What the elements of any kind have in common, wherever they stand.
use Rattle.std.proofs.Common.{◌≡◌, ℕ, ◌+◌, length, refl, sym, ap, ◌∙◌, length-append, arith}
use Rattle.std.proofs.lemmas.List.{length-map}
use Rattle.std.specs.Prelude.{is_none, unwrap_or, Option, None, Some}
use Rattle.oas_num.specs.declared.deltas.GDelta.{GDelta}
use Rattle.oas_ring.specs.declared.point.Point.{Point}
use Rattle.oas_shape.specs.declared.point_list.Closing.{Closing}
use Rattle.oas_shape.specs.declared.point_list.Closing.TheVariants.{Listed, FirstX, FirstY}
use Rattle.oas_shape.specs.Steps.{sums, moved}
use Rattle.oas_shape.specs.Polylines.{Polyline, displacements, listed_vertices, last_after, left_out, left_out_count, vertices_of}
use Rattle.oas_drawing.specs.declared.drawn.Drawn.{Drawn}
use Rattle.oas_drawing.specs.declared.kinds.Kind.{Kind}
use Rattle.oas_drawing.specs.Modal.{ModalState}
use Rattle.oas_drawing.specs.Drawn.{weight_so_far}
use Rattle.oas_drawing.specs.Drawing.{kind_at, place_of, point_from, drawn_by}
use Rattle.oas_drawing.specs.Reasons.{weight_if, lacks_if}
use Rattle.std.specs.Option.{option_map}

-- ---- weight and points

left_out_length : (c : Closing) (p q : Point) → length (left_out c p q) ≡ left_out_count c
left_out_length Listed p q = refl
left_out_length FirstX p q = refl
left_out_length FirstY p q = refl

-- how many vertices there are
vertices_number : (line : Polyline) (at : Point) → length (vertices_of line at) ≡ length (sums (displacements line.running line.deltas)) + left_out_count line.closing
vertices_number line at =
    length-append (listed_vertices line.running line.deltas at) (left_out line.closing at (last_after at (listed_vertices line.running line.deltas at)))
    ∙ (λ i. length-map (sums (displacements line.running line.deltas)) (moved at) i + left_out_length line.closing at (last_after at (listed_vertices line.running line.deltas at)) i)

-- equal in weight, where they are defined, and in whether points are missing
abbrev Alike : Option Drawn → Option Drawn → Type 0
Alike a b = (option_map weight_so_far a ≡ option_map weight_so_far b) × (lacks_if a ≡ lacks_if b)

-- by the cases of each kind's element, so that a kind more needs no line here
alike : (m : ModalState) (kind : Kind) (p q : Point) → Alike (kind_at m kind p) (kind_at m kind q)
alike m kind p q = grind (arith, vertices_number)

-- its weight says whether it is defined
defined_by : (o : Option Drawn) → is_none o ≡ is_none (option_map weight_so_far o)
defined_by None = refl
defined_by (Some d) = refl

weight_by : (o : Option Drawn) → weight_if o ≡ unwrap_or (option_map weight_so_far o) 0
weight_by None = refl
weight_by (Some d) = refl

-- an element is defined at each point or at none
pub drawn_defined : (m : ModalState) (kind : Kind) (d e : GDelta) → is_none (drawn_by m kind d) ≡ is_none (drawn_by m kind e)
drawn_defined m kind d e =
    let same = alike m kind (point_from (place_of m kind) d) (point_from (place_of m kind) e) in
    defined_by (drawn_by m kind d) ∙ ap (λ (o : Option ℕ). is_none o) same.0 ∙ sym (defined_by (drawn_by m kind e))

-- and weighs as much at each, and lacks points at each or at none
pub drawn_alike : (m : ModalState) (kind : Kind) (d e : GDelta) → (weight_if (drawn_by m kind d) ≡ weight_if (drawn_by m kind e)) × (lacks_if (drawn_by m kind d) ≡ lacks_if (drawn_by m kind e))
drawn_alike m kind d e =
    let same = alike m kind (point_from (place_of m kind) d) (point_from (place_of m kind) e) in
    (weight_by (drawn_by m kind d) ∙ ap (λ (o : Option ℕ). unwrap_or o 0) same.0 ∙ sym (weight_by (drawn_by m kind e)), same.1)
