-- A ring goes round at most one rectangle, which is between its first and its third point; a ring that is the same goes round
-- the same one.
use Rattle.std.proofs.Common.{◌≡◌, ℕ, zero, suc, ◌<◌, ℤ, ◌<ℤ◌, Bool, true, false, List, length, Option, None, Some, refl, sym, ap, ◌∙◌, subst, cond, T, arith}
use Rattle.std.specs.Prelude.{int_lt, IfSome, IfNone}
use Rattle.std.specs.Bool.{Decides}
use Rattle.std.specs.Int.{int_min, int_max}
use Rattle.std.proofs.lemmas.Bool.Decides.{Decides-and}
use Rattle.std.proofs.lemmas.Int.{ints}
use Rattle.oas_ring.specs.declared.point.Point.{Point}
use Rattle.oas_ring.specs.declared.rectangles.Corners.{Corners}
use Rattle.oas_ring.specs.Points.{point_at}
use Rattle.oas_ring.specs.Readings.{reading_of}
use Rattle.oas_ring.specs.Rings.{SameRing}
use Rattle.oas_ring.specs.Rectangles.{corners_of, corners_between, IsBox, is_box, box_of}
use Rattle.oas_ring.specs.Laws.RingsLaws.{same_ring_back, same_ring_twice}
use Rattle.oas_ring.specs.Laws.ReadingsLaws.{length-reading_of, read_from_same_ring, is_same_ring-SameRing}

-- the lesser and the greater of two numbers, in either order
record Sides (a b l h : ℤ) : Type 0 where
  pub least : int_min a b ≡ l
  pub most : int_max a b ≡ h

-- where the first is the lesser
up : (a b : ℤ) → a <ℤ b → Sides a b a b
up a b h = record { least = grind (arith, ints); most = grind (arith, ints) }

-- where the second is
down : (a b : ℤ) → a <ℤ b → Sides b a a b
down a b h = record { least = grind (arith, ints); most = grind (arith, ints) }

-- the corners by their four coordinates
corners_from : (a b : Point) (c : Corners) → Sides a.x b.x c.low.x c.high.x → Sides a.y b.y c.low.y c.high.y
    → corners_between a b ≡ c
corners_from a b c x y =
    ap (λ t. record { low = record { x = t; y = int_min a.y b.y }; high = record { x = int_max a.x b.x; y = int_max a.y b.y } }) x.least
    ∙ ap (λ t. record { low = record { x = c.low.x; y = t }; high = record { x = int_max a.x b.x; y = int_max a.y b.y } }) y.least
    ∙ ap (λ t. record { low = c.low; high = record { x = t; y = int_max a.y b.y } }) x.most
    ∙ ap (λ t. record { low = c.low; high = record { x = c.high.x; y = t } }) y.most

-- so it is in each reading of the corners
in_reading : (c : Corners) → c.low.x <ℤ c.high.x → c.low.y <ℤ c.high.y → (s : ℕ) (d : Bool) → s < 4
    → corners_between
    (point_at (reading_of (corners_of c) (record { start = s; backwards = d })) 0)
    (point_at (reading_of (corners_of c) (record { start = s; backwards = d })) 2)
    ≡ c
in_reading c w t zero true l = corners_from _ _ c (up c.low.x c.high.x w) (up c.low.y c.high.y t)
in_reading c w t zero false l = corners_from _ _ c (up c.low.x c.high.x w) (up c.low.y c.high.y t)
in_reading c w t (suc zero) true l = corners_from _ _ c (up c.low.x c.high.x w) (down c.low.y c.high.y t)
in_reading c w t (suc zero) false l = corners_from _ _ c (up c.low.x c.high.x w) (down c.low.y c.high.y t)
in_reading c w t (suc (suc zero)) true l = corners_from _ _ c (down c.low.x c.high.x w) (down c.low.y c.high.y t)
in_reading c w t (suc (suc zero)) false l = corners_from _ _ c (down c.low.x c.high.x w) (down c.low.y c.high.y t)
in_reading c w t (suc (suc (suc zero))) true l = corners_from _ _ c (down c.low.x c.high.x w) (up c.low.y c.high.y t)
in_reading c w t (suc (suc (suc zero))) false l = corners_from _ _ c (down c.low.x c.high.x w) (up c.low.y c.high.y t)
in_reading c w t (suc (suc (suc (suc n)))) d l = absurd (omega arith)

-- a box has four points
pub length_of_box : (p : List Point) (c : Corners) → IsBox p c → length p ≡ 4
length_of_box p c h =
    let r = read_from_same_ring (corners_of c) p (omega arith) (same_ring_back p (corners_of c) h.round) in
    ap length r.is ∙ length-reading_of (corners_of c) r.reading

-- and its corners are those between its first and its third point
pub corners_of_box : (p : List Point) (c : Corners) → IsBox p c
    → corners_between (point_at p 0) (point_at p 2) ≡ c
corners_of_box p c h =
    let r = read_from_same_ring (corners_of c) p (omega arith) (same_ring_back p (corners_of c) h.round) in
    ap (λ t. corners_between (point_at t 0) (point_at t 2)) r.is
    ∙ in_reading c h.wide h.tall r.reading.start r.reading.backwards r.within

-- the test of the order of numbers
int_lt-Decides : (a b : ℤ) → Decides (int_lt a b) (a <ℤ b)
int_lt-Decides a b = (λ e. record { lt = subst T (sym e) tt }, λ h. is_true (int_lt a b) h.lt) where
  -- a test that holds is true
  is_true : (t : Bool) → T t → t ≡ true
  is_true true h = refl
  is_true false h = absurd h

-- the test of boxes is true exactly for them
pub is_box-Decides : (p : List Point) (c : Corners) → Decides (is_box p c) (IsBox p c)
is_box-Decides p c =
    let sides = Decides-and _ _ (int_lt-Decides c.low.y c.high.y) (is_same_ring-SameRing p (corners_of c)) in
    let whole = Decides-and _ _ (int_lt-Decides c.low.x c.high.x) sides in
    (λ e. let h = whole.0 e in record { wide = h.0; tall = h.1.0; round = h.1.1 }, λ b. whole.1 (b.wide, (b.tall, b.round)))

-- the rectangle that a ring goes round is found
pub box_of-is : (p : List Point) (c : Corners) → IsBox p c → box_of p ≡ Some c
box_of-is p c b =
    let e : corners_between (point_at p 0) (point_at p 2) ≡ c = corners_of_box p c b in
    ap (λ (d : Corners). cond (is_box p d) (Some d) None) e ∙ ap (λ t. cond t (Some c) None) ((is_box-Decides p c).1 b)

-- what is returned under a test
some_if : (t : Bool) (d c : Corners) → cond t (Some d) None ≡ Some c → (t ≡ true) × (d ≡ c)
some_if true d c e = (refl, cc)
some_if false d c e = absurd (let no : ⊥ = cc in no)

-- and what is found is a rectangle that the ring goes round
pub box_of-box : (p : List Point) (c : Corners) → box_of p ≡ Some c → IsBox p c
box_of-box p c e =
    let d = corners_between (point_at p 0) (point_at p 2) in
    let h = some_if (is_box p d) d c e in
    subst (IsBox p) h.1 ((is_box-Decides p d).0 h.0)

-- where there is none, there is none
pub box_of-none : (p : List Point) → ((c : Corners) → IsBox p c → ⊥) → box_of p ≡ None
box_of-none p never = by (box_of p) refl where
  by : (o : Option Corners) → box_of p ≡ o → box_of p ≡ None
  by None e = e
  by (Some c) e = absurd (never c (box_of-box p c e))

-- a ring that is the same goes round the same rectangle
turn_box : (p q : List Point) (c : Corners) → SameRing p q → IsBox p c → IsBox q c
turn_box p q c s b = record { wide = b.wide; tall = b.tall; round = same_ring_twice q p (corners_of c) (same_ring_back p q s) b.round }

-- rings that are the same go round the same rectangle
pub box_of-alike : (p q : List Point) → SameRing p q → box_of p ≡ box_of q
box_of-alike p q s = by (box_of p) refl where
  by : (o : Option Corners) → box_of p ≡ o → box_of p ≡ box_of q
  by None e = e ∙ sym (box_of-none q (λ c b. let f : box_of p ≡ Some c = box_of-is p c (turn_box q p c (same_ring_back p q s) b) in let no : ⊥ = cc in no))
  by (Some c) e = e ∙ sym (box_of-is q c (turn_box p q c s (box_of-box p c e)))

-- what is returned for the rectangle of a ring
pub box_of-answer : (p : List Point) (o : Option Corners) → IfSome o (IsBox p) → IfNone o ((c : Corners) → IsBox p c → ⊥) → o ≡ box_of p
box_of-answer p (Some c) some none = sym (box_of-is p c some)
box_of-answer p None some none = sym (box_of-none p none)
