-- What a record draws by its own fields is what it draws after any records, where coordinates are absolute.
use Rattle.std.proofs.Common.{◌≡◌, ℕ, Bool, true, false, List, [], ◌∷◌, ◌++◌, Option, None, Some, is_some, inl, inr, refl, sym, ap, ◌∙◌, arith}
use Rattle.std.proofs.lemmas.Int.{ints}
use Rattle.std.specs.Prelude.{ℤ, pos, ◌+ℤ◌, cond}
use Rattle.std.specs.Option.{option_or, option_to_list}
use Rattle.std.specs.List.{list_all, AllByRecursion}
use Rattle.oas_num.specs.declared.refusals.Why.{Why}
use Rattle.oas_ring.specs.declared.point.Point.{Point}
use Rattle.oas_shape.specs.declared.repetitions.RepField.{RepField}
use Rattle.oas_shape.specs.Polylines.{Polyline, VerticesMay}
use Rattle.oas_shape.specs.Steps.{still, IsInRange}
use Rattle.oas_record.specs.declared.spots.Spot.{Spot}
use Rattle.oas_record.specs.declared.references.CellRef.{CellRef}
use Rattle.oas_record.specs.declared.references.CellRef.TheVariants as cell
use Rattle.oas_record.specs.declared.references.TextRef.{TextRef}
use Rattle.oas_record.specs.declared.references.TextRef.TheVariants as text
use Rattle.oas_record.specs.declared.placements.Turn.{Turn}
use Rattle.oas_record.specs.declared.placements.Turn.TheVariants.{Quarters, Degrees}
use Rattle.oas_record.specs.declared.paths.Extension.{Extension}
use Rattle.oas_record.specs.declared.paths.Extension.TheVariants as extension
use Rattle.oas_record.specs.declared.paths.Extensions.{Extensions}
use Rattle.oas_record.specs.declared.records.Record.{Record}
use Rattle.oas_record.specs.declared.records.Record.TheVariants as record_of
use Rattle.oas_elements.specs.declared.element.Element.{Element}
use Rattle.oas_elements.specs.declared.element.Element.TheVariants.{Placement}
use Rattle.oas_writing.specs.Position.{Position}
use Rattle.oas_writing.specs.Drawn.{Drawn}
use Rattle.oas_writing.specs.Turns.{turned}
use Rattle.oas_writing.specs.Values.{is_relative, extension_number, start_number, end_number}
use Rattle.oas_writing.specs.Modal.{ModalState, modal_of, moved_by, stepped}
use Rattle.oas_writing.specs.Drawing.{point_from, drawn_at, repeats, placement_at, text_at, rectangle_at, polygon_at, path_at, circle_at, offsets_if, offsets_of, copies_at, elements_at}
use Rattle.oas_elements.specs.Grid.{is_grid_point}
use Rattle.oas_writing.proofs.Grids.{vertices_fault, all_on_grid}
use Rattle.oas_writing.proofs.Steps.{modal_step}
use Rattle.oas_writing.specs.Records.{element_record}
use Rattle.oas_judge.specs.Own.{is_memory, own_drawn, point_if, point_given, drawn_there, placement_if, turn_given, rectangle_if, number_given, start_given, end_given}

plus_zero : (x : ℤ) → x +ℤ pos 0 ≡ x
plus_zero x = omega (arith, ints)

-- a place that is given whole, in absolute mode
record IsThere (spot : Spot) (at : Point) : Type 0 where
  once : is_some spot.repetition ≡ false
  lands : (before : Position) → point_from (moved_by false before spot) still ≡ at

placed_at : (x y : ℤ) (at : Point) → ◌≡◌ {A = Option Point} (Some (record { x = x; y = y })) (Some at) → record { x = x; y = y } ≡ at
placed_at x y at h = cc

there_by : (x y : Option ℤ) (repetition : Option RepField) (at : Point) → point_if x y repetition ≡ Some at → IsThere (record { x = x; y = y; repetition = repetition }) at
there_by (Some x) (Some y) None at h = record { once = refl; lands = λ before. (λ i. record { x = plus_zero x i; y = plus_zero y i }) ∙ placed_at x y at h }
there_by (Some x) (Some y) (Some r) at h = absurd cc
there_by (Some x) None r at h = absurd cc
there_by None y r at h = absurd cc

there : (spot : Spot) (at : Point) → point_given spot ≡ Some at → IsThere spot at
there spot at h = there_by spot.x spot.y spot.repetition at h

-- vertices that are refused, and not out of memory
pub off_grid : (why : Why) (points : List Point) → VerticesMay why points → is_memory why ≡ false → list_all is_grid_point points ≡ false
off_grid why points may not = elim (vertices_fault why points may) [ inl e ↦ (let no : ◌≡◌ {A = Bool} false true = sym not ∙ ap is_memory e in absurd cc) | inr p ↦ p.1 ]

-- and those that are within the limits
pub on_grid : (points : List Point) → AllByRecursion IsInRange points → list_all is_grid_point points ≡ true
on_grid points near = all_on_grid points near

lands_in : (relative : Bool) → relative ≡ false → {spot : Spot} {at : Point} → IsThere spot at → (before : Position) → point_from (moved_by relative before spot) still ≡ at
lands_in relative absolute {spot = spot} t before = (λ i. point_from (moved_by (absolute i) before spot) still) ∙ t.lands before

-- where something is drawn there is a place
record IsDrawnThere (place : Option Point) (draw : Point → Option Drawn) (d : Drawn) : Type 0 where
  at : Point
  is : place ≡ Some at
  drawn : draw at ≡ Some d

drawn_at_place : (place : Option Point) (draw : Point → Option Drawn) (d : Drawn) → drawn_there place draw ≡ Some d → IsDrawnThere place draw d
drawn_at_place None draw d h = absurd cc
drawn_at_place (Some at) draw d h = record { at = at; is = refl; drawn = h }

-- ---- the kinds: what is given isn't taken from a variable

placement_same : (c other : Option CellRef) (turn : Turn) (flip : Bool) (at : Point) (d : Drawn) → placement_if c (turn_given turn) flip at ≡ Some d →
    placement_at (option_or c other) (turned turn) flip at ≡ Some d
placement_same (Some (cell.Name name)) other (Quarters n) flip at d h = h
placement_same (Some (cell.Number number)) other (Quarters n) flip at d h = h
placement_same None other (Quarters n) flip at d h = absurd cc
placement_same c other (Degrees magnification angle) flip at d h = absurd cc

text_same : (s s' : Option TextRef) (l l' t t' : Option ℕ) (at : Point) (d : Drawn) → text_at s l t at ≡ Some d → text_at (option_or s s') (option_or l l') (option_or t t') at ≡ Some d
text_same (Some (text.Number number)) s' (Some l) l' (Some t) t' at d h = h
text_same (Some (text.Label label)) s' (Some l) l' (Some t) t' at d h = h
text_same (Some (text.Number number)) s' (Some l) l' None t' at d h = absurd cc
text_same (Some (text.Label label)) s' (Some l) l' None t' at d h = absurd cc
text_same (Some (text.Number number)) s' None l' t t' at d h = absurd cc
text_same (Some (text.Label label)) s' None l' t t' at d h = absurd cc
text_same None s' l l' t t' at d h = absurd cc

rectangle_same : (square : Bool) (l l' t t' w w' h h' : Option ℕ) (at : Point) (d : Drawn) → rectangle_if square l t w h at ≡ Some d →
    rectangle_at (option_or l l') (option_or t t') (option_or w w') (option_or (cond square (option_or w w') h) h') at ≡ Some d
rectangle_same false (Some l) l' (Some t) t' (Some w) w' (Some h) h' at d e = e
rectangle_same false (Some l) l' (Some t) t' (Some w) w' None h' at d e = absurd cc
rectangle_same false (Some l) l' (Some t) t' None w' h h' at d e = absurd cc
rectangle_same false (Some l) l' None t' w w' h h' at d e = absurd cc
rectangle_same false None l' t t' w w' h h' at d e = absurd cc
rectangle_same true l l' t t' w w' h h' at d e = absurd cc

polygon_same : (l l' t t' : Option ℕ) (p p' : Option Polyline) (at : Point) (d : Drawn) → polygon_at l t p at ≡ Some d → polygon_at (option_or l l') (option_or t t') (option_or p p') at ≡ Some d
polygon_same (Some l) l' (Some t) t' (Some p) p' at d e = e
polygon_same (Some l) l' (Some t) t' None p' at d e = absurd cc
polygon_same (Some l) l' None t' p p' at d e = absurd cc
polygon_same None l' t t' p p' at d e = absurd cc

circle_same : (l l' t t' r r' : Option ℕ) (at : Point) (d : Drawn) → circle_at l t r at ≡ Some d → circle_at (option_or l l') (option_or t t') (option_or r r') at ≡ Some d
circle_same (Some l) l' (Some t) t' (Some r) r' at d e = e
circle_same (Some l) l' (Some t) t' None r' at d e = absurd cc
circle_same (Some l) l' None t' r r' at d e = absurd cc
circle_same None l' t t' r r' at d e = absurd cc

-- an extension that is given as a number is that, whatever the half-width
number_same : (half_width : Option ℕ) (e : Extension) (z : ℤ) → number_given e ≡ Some z → extension_number half_width e ≡ Some z
number_same half_width extension.Modal z h = absurd cc
number_same half_width extension.Flush z h = absurd cc
number_same half_width extension.Half z h = absurd cc
number_same half_width (extension.Explicit n) z h = h

start_same : (half_width : Option ℕ) (extensions : Option Extensions) (z : ℤ) → start_given extensions ≡ Some z → start_number half_width extensions ≡ Some z
start_same half_width None z h = absurd cc
start_same half_width (Some both) z h = number_same half_width both.start z h

end_same : (half_width : Option ℕ) (extensions : Option Extensions) (z : ℤ) → end_given extensions ≡ Some z → end_number half_width extensions ≡ Some z
end_same half_width None z h = absurd cc
end_same half_width (Some both) z h = number_same half_width both.end z h

-- a path whose extensions are these
path_same : (l l' t t' w w' : Option ℕ) (s s' e e' : Option ℤ) (given_s given_e : Option ℤ) (p p' : Option Polyline) (at : Point) (d : Drawn) →
    ((z : ℤ) → given_s ≡ Some z → s ≡ Some z) → ((z : ℤ) → given_e ≡ Some z → e ≡ Some z) → path_at l t w given_s given_e p at ≡ Some d →
    path_at (option_or l l') (option_or t t') (option_or w w') (option_or s s') (option_or e e') (option_or p p') at ≡ Some d
path_same (Some l) l' (Some t) t' (Some w) w' s s' e e' (Some given_s) (Some given_e) (Some p) p' at d is_s is_e h =
    (λ i. path_at (Some l) (Some t) (Some w) (option_or (is_s given_s refl i) s') (option_or (is_e given_e refl i) e') (Some p) at) ∙ h
path_same (Some l) l' (Some t) t' (Some w) w' s s' e e' (Some given_s) (Some given_e) None p' at d is_s is_e h = absurd cc
path_same (Some l) l' (Some t) t' (Some w) w' s s' e e' (Some given_s) None p p' at d is_s is_e h = absurd cc
path_same (Some l) l' (Some t) t' (Some w) w' s s' e e' None given_e p p' at d is_s is_e h = absurd cc
path_same (Some l) l' (Some t) t' None w' s s' e e' given_s given_e p p' at d is_s is_e h = absurd cc
path_same (Some l) l' None t' w w' s s' e e' given_s given_e p p' at d is_s is_e h = absurd cc
path_same None l' t t' w w' s s' e e' given_s given_e p p' at d is_s is_e h = absurd cc

-- ---- a record

-- it has no repetition, and draws this
record DrawsOnce (m : ModalState) (r : Record) (d : Drawn) : Type 0 where
  once : repeats r ≡ false
  drawn : drawn_at (stepped m r) r still ≡ Some d

draws_once : (m : ModalState) (r : Record) (d : Drawn) → m.relative ≡ false → own_drawn r ≡ Some d → DrawsOnce m r d
draws_once m (record_of.Placement p) d absolute h =
    let q = drawn_at_place (point_given p.spot) _ d h in
    let t = there p.spot q.at q.is in
    record { once = t.once; drawn = ap (placement_at (option_or p.cell m.cell) (turned p.turn) p.flip) (lands_in m.relative absolute t m.placement) ∙ placement_same p.cell m.cell p.turn p.flip q.at d q.drawn }
draws_once m (record_of.Text p) d absolute h =
    let q = drawn_at_place (point_given p.spot) _ d h in
    let t = there p.spot q.at q.is in
    record {
      once = t.once;
      drawn = ap (text_at (option_or p.string m.string) (option_or p.textlayer m.textlayer) (option_or p.texttype m.texttype)) (lands_in m.relative absolute t m.text)
          ∙ text_same p.string m.string p.textlayer m.textlayer p.texttype m.texttype q.at d q.drawn;
    }
draws_once m (record_of.Rectangle p) d absolute h =
    let q = drawn_at_place (point_given p.spot) _ d h in
    let t = there p.spot q.at q.is in
    record {
      once = t.once;
      drawn = ap (rectangle_at (option_or p.layer m.layer) (option_or p.datatype m.datatype) (option_or p.width m.width) (option_or (cond p.square (option_or p.width m.width) p.height) m.height))
          (lands_in m.relative absolute t m.geometry)
          ∙ rectangle_same p.square p.layer m.layer p.datatype m.datatype p.width m.width p.height m.height q.at d q.drawn;
    }
draws_once m (record_of.Polygon p) d absolute h =
    let q = drawn_at_place (point_given p.spot) _ d h in
    let t = there p.spot q.at q.is in
    record {
      once = t.once;
      drawn = ap (polygon_at (option_or p.layer m.layer) (option_or p.datatype m.datatype) (option_or p.points m.polygon_points)) (lands_in m.relative absolute t m.geometry)
          ∙ polygon_same p.layer m.layer p.datatype m.datatype p.points m.polygon_points q.at d q.drawn;
    }
draws_once m (record_of.Path p) d absolute h =
    let q = drawn_at_place (point_given p.spot) _ d h in
    let t = there p.spot q.at q.is in
    let width : Option ℕ = option_or p.half_width m.half_width in
    record {
      once = t.once;
      drawn = ap (path_at (option_or p.layer m.layer) (option_or p.datatype m.datatype) (option_or p.half_width m.half_width)
          (option_or (start_number (option_or p.half_width m.half_width) p.extensions) m.start) (option_or (end_number (option_or p.half_width m.half_width) p.extensions) m.end)
          (option_or p.points m.path_points)) (lands_in m.relative absolute t m.geometry)
          ∙ path_same p.layer m.layer p.datatype m.datatype p.half_width m.half_width (start_number width p.extensions) m.start (end_number width p.extensions) m.end (start_given p.extensions)
          (end_given p.extensions) p.points m.path_points q.at d (start_same width p.extensions) (end_same width p.extensions) q.drawn;
    }
draws_once m (record_of.Circle p) d absolute h =
    let q = drawn_at_place (point_given p.spot) _ d h in
    let t = there p.spot q.at q.is in
    record {
      once = t.once;
      drawn = ap (circle_at (option_or p.layer m.layer) (option_or p.datatype m.datatype) (option_or p.radius m.radius)) (lands_in m.relative absolute t m.geometry)
          ∙ circle_same p.layer m.layer p.datatype m.datatype p.radius m.radius q.at d q.drawn;
    }
draws_once m _ d absolute h = absurd cc

-- what it draws after any records, where coordinates are absolute
pub own_draws : (before : List Record) (r : Record) (d : Drawn) → is_relative before ≡ false → own_drawn r ≡ Some d → elements_at r before ≡ d ∷ []
own_draws before r d absolute h =
    let m : ModalState = stepped (modal_of before) r in
    let o = draws_once (modal_of before) r d absolute h in
    ap (λ (n : ModalState). copies_at n r (offsets_of n r)) (modal_step before r)
    ∙ ap (λ (b : Bool). copies_at m r (offsets_if b m.repetition)) o.once
    ∙ ap (λ (x : Option Drawn). option_to_list x ++ []) o.drawn

-- the record of an element gives all its fields
pub element_gives : (e : Element) → is_some (own_drawn (element_record e)) ≡ true
element_gives (Placement name x y turns flip) = refl
element_gives e = refl
