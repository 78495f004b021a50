-- The fields that several kinds of records have.
use Rattle.std.proofs.Common.{ℕ, ℤ, Bool, List, Option, refl}
use Rattle.oas_num.specs.declared.refusals.Why.{Why}
use Rattle.oas_num.specs.Style.{Style, Any, Shortest}
use Rattle.oas_shape.specs.declared.list_use.ListUse.{ListUse}
use Rattle.oas_shape.specs.declared.repetitions.RepField.{RepField}
use Rattle.oas_shape.specs.Polylines.{Polyline}
use Rattle.oas_shape.specs.PointLists.{point_list_in, PointListTook}
use Rattle.oas_shape.specs.Laws.PointListLaws.{OneSpelling-point_list, IsWithin-point_list, HasSome-point_list}
use Rattle.oas_shape.specs.Repetitions.{rep_field_in, RepFieldTook}
use Rattle.oas_shape.specs.Laws.RepetitionLaws.{OneSpelling-rep_field, IsWithin-rep_field, HasSome-rep_field}
use Rattle.oas_record.specs.declared.spots.Spot.{Spot}
use Rattle.oas_record.specs.FoundParts.{found_point_list, found_rep_field}
use Rattle.oas_record.specs.ShapeNever.{point_list_never, rep_field_never}
use Rattle.oas_record.specs.Info.{has}
use Rattle.oas_record.specs.Kinds.{Kind, spelled_in, number, signed}
use Rattle.oas_record.specs.Trees.{pair, there, image}

abbrev pub Layers : Type 0
Layers = Option ℕ × Option ℕ

-- layer and datatype, or textlayer and texttype, as bits 0 and 1 of the info byte say
abbrev pub layers : ℕ → Kind Layers
layers info = pair (there (has info 1) number) (λ _. there (has info 2) number)

abbrev pub layers_in : Style → ℕ → Option ℕ × Option ℕ → List ℕ → Type 0
layers_in style info = spelled_in style (layers info)

abbrev pub LayersTook : ℕ → Why → List ℕ → Type 0
LayersTook info = (layers info).took

abbrev pub repetition : Kind RepField
repetition = record {
  any = rep_field_in Any;
  shortest = rep_field_in Shortest;
  took = RepFieldTook;
  found = found_rep_field;
  one = OneSpelling-rep_field;
  within = IsWithin-rep_field;
  some = HasSome-rep_field;
  never = rep_field_never;
}

abbrev pub RepetitionTook : Bool → Why → List ℕ → Type 0
RepetitionTook here = (there here repetition).took

abbrev pub spot_of : Option ℤ × (Option ℤ × Option RepField) → Spot
spot_of fields = record { x = fields.0; y = fields.1.0; repetition = fields.1.1 }

abbrev spot_back : Spot → Option ℤ × (Option ℤ × Option RepField)
spot_back spot = (spot.x, (spot.y, spot.repetition))

-- x, y and repetition, each where it is given
abbrev pub spot : Bool → Bool → Bool → Kind Spot
spot x y r = image spot_of spot_back (pair (there x signed) (λ _. pair (there y signed) (λ _. there r repetition))) (λ u bytes p. refl)

abbrev pub spot_in : Style → Bool → Bool → Bool → Spot → List ℕ → Type 0
spot_in style x y r = spelled_in style (spot x y r)

abbrev pub SpotTook : Bool → Bool → Bool → Why → List ℕ → Type 0
SpotTook x y r = (spot x y r).took

abbrev pub points : ListUse → Kind Polyline
points purpose = record {
  any = point_list_in Any purpose;
  shortest = point_list_in Shortest purpose;
  took = PointListTook purpose;
  found = found_point_list purpose;
  one = OneSpelling-point_list purpose;
  within = IsWithin-point_list purpose;
  some = HasSome-point_list purpose;
  never = point_list_never purpose;
}

abbrev pub PointsTook : Bool → ListUse → Why → List ℕ → Type 0
PointsTook here purpose = (there here (points purpose)).took
