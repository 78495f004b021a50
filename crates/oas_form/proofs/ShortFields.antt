-- The fields and the point lists of a record in the shortest style.
use Rattle.std.proofs.Common.{◌≡◌, ℕ, true, false, List, [], ◌∷◌, Option, None, Some, length, refl, sym, ap, ◌∙◌, arith}
use Rattle.std.proofs.lemmas.Int.{ints}
use Rattle.std.specs.Prelude.{ℤ, ◌+ℤ◌, ◌-ℤ◌}
use Rattle.oas_num.specs.declared.deltas.GDelta.{GDelta}
use Rattle.oas_num.specs.Grammar.{IsThere}
use Rattle.oas_num.specs.Style.{Shortest}
use Rattle.oas_ring.specs.declared.point.Point.{Point}
use Rattle.oas_shape.specs.declared.list_use.ListUse.{ListUse}
use Rattle.oas_shape.specs.Steps.{moved}
use Rattle.oas_shape.specs.Polylines.{Polyline}
use Rattle.oas_shape.specs.Repetitions.{rep_field_in}
use Rattle.oas_shape.specs.PointLists.{plain_line, IsPlainList}
use Rattle.oas_record.specs.declared.spots.Spot.{Spot}
use Rattle.oas_record.specs.Info.{has}
use Rattle.oas_record.specs.Fields.{spot_in}
use Rattle.oas_form.specs.Records.{steps_from, line_of, spot_at}

-- ---- fields

-- a field that is given has a value
pub record Given {V : Type 0} (spells : V → List ℕ → Type 0) (o : Option V) (bytes : List ℕ) : Type 0 where
  pub value : V
  pub is : Some value ≡ o
  pub spelled : spells value bytes

pub given : {V : Type 0} (spells : V → List ℕ → Type 0) (o : Option V) (bytes : List ℕ) → IsThere true spells o bytes → Given spells o bytes
given spells (Some v) bytes h = record { value = v; is = refl; spelled = h }
given spells None bytes h = absurd h

-- and one that isn't has none
absent : {V : Type 0} (spells : V → List ℕ → Type 0) (o : Option V) (bytes : List ℕ) → IsThere false spells o bytes → ◌≡◌ {A = Option V} None o
absent spells (Some v) bytes h = absurd h
absent spells None bytes h = refl

-- x and y, without a repetition
pub record IsSpot (spot : Spot) : Type 0 where
  pub x : ℤ
  pub y : ℤ
  pub is : spot_at x y ≡ spot

pub spot_is : (spot : Spot) (bytes : List ℕ) → spot_in Shortest true true false spot bytes → IsSpot spot
spot_is spot bytes h =
    let x = given _ _ _ h.spelled.first in
    let y = given _ _ _ h.spelled.second.first in
    let none = absent (rep_field_in Shortest) _ _ h.spelled.second.second in
    record { x = x.value; y = y.value; is = (λ i. record { x = x.is i; y = y.is i; repetition = none i }) ∙ h.is }

-- ---- point lists

-- the points that the steps reach
abbrev pub walk : Point → List GDelta → List Point
walk p [] = []
walk p (d ∷ ds) = moved p d ∷ walk (moved p d) ds

walk_back : (p : Point) (ds : List GDelta) → steps_from p (walk p ds) ≡ ds
walk_back p [] = refl
walk_back p (d ∷ ds) = λ i. (record { dx = same p.x d.dx i; dy = same p.y d.dy i }) ∷ walk_back (moved p d) ds i where
  same : (x d : ℤ) → (x +ℤ d) -ℤ x ≡ d
  same x d = omega (arith, ints)

pub length-walk : (p : Point) (ds : List GDelta) → length (walk p ds) ≡ length ds
length-walk p [] = refl
length-walk p (d ∷ ds) = omega (arith, length-walk (moved p d) ds)

-- the list is that of the points at its steps
pub listed : (purpose : ListUse) (line : Polyline) (bytes : List ℕ) (p : Point) → IsPlainList purpose line bytes → line_of (p ∷ walk p line.deltas) ≡ line
listed purpose line bytes p h = ap plain_line (walk_back p line.deltas) ∙ sym h.plain
