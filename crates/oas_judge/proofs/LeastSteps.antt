-- Rings that are plainly in their least reading.
use Rattle.std.proofs.Common.{◌≡◌, ℕ, ◌-◌, ◌<◌, true, false, List, length, take, drop, None, refl, sym, ap, ◌∙◌, arith}
use Rattle.std.specs.Prelude.{reverse}
use Rattle.std.specs.declared.cmp.Ordering.TheVariants.{Less, Equal, Greater}
use Rattle.std.proofs.lemmas.Cmp.{tied_itself}
use Rattle.std.proofs.lemmas.List.{append-nil, length-reverse, length-drop, get_or-append_right, get_or-take, get_or-reverse}
use Rattle.oas_ring.specs.declared.point.Point.{Point}
use Rattle.oas_ring.specs.declared.readings.Reading.{Reading}
use Rattle.oas_ring.specs.declared.rectangles.Corners.{Corners}
use Rattle.oas_ring.specs.Points.{origin, point_at, point_cmp, list_cmp}
use Rattle.oas_ring.specs.Readings.{reading_of, least_of, IsLeastReadingOf}
use Rattle.oas_ring.specs.Rectangles.{box_of, IsBox, corners_of}
use Rattle.oas_ring.specs.SoleLeast.{IsSoleLeast}
use Rattle.oas_ring.specs.Laws.PointsLaws.{points_total}
use Rattle.oas_ring.specs.Laws.RingsLaws.{length-same_ring}
use Rattle.oas_ring.specs.Laws.ReadingsLaws.{least_of-is}
use Rattle.oas_ring.specs.Laws.RectanglesLaws.{box_of-answer}
use Rattle.oas_ring.proofs.ReadingLemmas.{readings_more, readings_decided}
use Rattle.oas_ring.proofs.SoleLemmas.{first_of_reading, least_forwards}
use Rattle.oas_elements.specs.declared.profile.Profile.{Profile}
use Rattle.oas_elements.specs.declared.profile.Profile.TheVariants.{One, Two}
use Rattle.oas_elements.specs.declared.element.Element.TheVariants.{Polygon}
use Rattle.oas_elements.specs.Same.{normal, normal_polygon, drawn_box}

abbrev forth : Reading
forth = record { start = 0; backwards = false }

abbrev back : Reading
back = record { start = 0; backwards = true }

-- the second point of either reading from the first
second_forth : (p : List Point) → 1 < length p → point_at (reading_of p forth) 1 ≡ point_at p 1
second_forth p h = ap (λ (w : List Point). point_at w 1) (append-nil p)

second_back : (p : List Point) → 1 < length p → point_at (reading_of p back) 1 ≡ point_at p (length p - 1)
second_back p h =
    let m = length p - 1 - 0 in
    let one : length (drop m (reverse p)) ≡ 1 = omega (arith, h, length-drop m (reverse p), length-reverse p) in
    let last : length p - 1 - 0 ≡ length p - 1 = omega arith in
    get_or-append_right (drop m (reverse p)) (take m (reverse p)) 1 1 origin one (omega arith)
    ∙ get_or-take m (reverse p) 0 origin (omega (arith, h))
    ∙ get_or-reverse p 0 origin (omega (arith, h))
    ∙ ap (point_at p) last

-- the first reading is the lesser, where its second point is
forth_below : (p : List Point) → 1 < length p → point_cmp (point_at p 1) (point_at p (length p - 1)) ≡ Less → Less ≡ list_cmp (reading_of p forth) (reading_of p back)
forth_below p h below =
    let all = list_cmp (reading_of p forth) (reading_of p back) in
    let tied : Equal ≡ point_cmp (point_at p 0) (point_at p 0) = sym (tied_itself points_total (point_at p 0)) in
    let left : list_cmp (drop 1 (reading_of p forth)) (drop 1 (reading_of p back)) ≡ all =
    readings_more p forth back 0 0 0 Equal all (omega (arith, h)) (first_of_reading p forth (omega (arith, h))) (first_of_reading p back (omega (arith, h))) tied refl refl in
    readings_decided p forth back 1 1 (length p - 1) Less all h (second_forth p h) (second_back p h) (sym below) (λ (e : Less ≡ Equal). cc) left

-- a ring of other than four points goes round no rectangle
no_box : (p : List Point) → 4 < length p → None ≡ box_of p
no_box p h = box_of-answer p None tt (λ (c : Corners) (box : IsBox p c). absurd (omega (arith, h, length-same_ring p (corners_of c) box.round)))

none_drawn : (profile : Profile) (p : List Point) → 4 < length p → drawn_box profile p ≡ None
none_drawn One p h = refl
none_drawn Two p h = sym (no_box p h)

pub plainly_kept : (p : List Point) → 4 < length p → IsSoleLeast p 0 → point_cmp (point_at p 1) (point_at p (length p - 1)) ≡ Less → (profile : Profile) (layer datatype : ℕ)
    → normal profile (Polygon layer datatype p) ≡ Polygon layer datatype p
plainly_kept p h sole below profile layer datatype =
    let least : IsLeastReadingOf p (reading_of p forth) = least_forwards p 0 Less sole (forth_below p (omega (arith, h)) below) (λ (e : Less ≡ Greater). cc) in
    let same : p ≡ least_of p = sym (append-nil p) ∙ least_of-is p (reading_of p forth) least in
    ap (normal_polygon layer datatype (least_of p)) (none_drawn profile p h) ∙ ap (Polygon layer datatype) (sym same)
