-- The steps of a point list, and the list, at the start of some bytes.
use Rattle.std.specs.Prelude.{◌≡◌, ℕ, Bool, IsTrue, List, ◌++◌}
use Rattle.oas_num.specs.Style.{Style, Any, Shortest}
use Rattle.oas_num.specs.Grammar.{IsImage, IsCount}
use Rattle.oas_num.specs.declared.deltas.GDelta.{GDelta}
use Rattle.oas_num.specs.Deltas.{SpellsDelta1, SpellsDelta2, SpellsDelta3, SpellsGDelta, gdelta_in}
use Rattle.oas_shape.specs.PointLists.{alternating, step2, step3, stepg, deltas_in}
use Rattle.oas_peek.specs.Fronts.{Left}

-- bytes were taken that spell it in any style, and in the shortest where that is said
pub record ConsumesIn {V : Type 0} (spells : Style → V → List ℕ → Type 0) (v : V) (old new : Left) : Type 0 where
  pub bytes : List ℕ
  pub joined : old.bytes ≡ bytes ++ new.bytes
  pub spelled : spells Any v bytes
  pub shortest : IsTrue new.shortest → IsTrue old.shortest × spells Shortest v bytes

-- a step of a list of type 4 or 5, in a style
abbrev pub stepg_in : Style → GDelta → List ℕ → Type 0
stepg_in Any = IsImage stepg SpellsGDelta
stepg_in Shortest = gdelta_in Shortest

-- Steps of lists of the other types, which the shortest style doesn't have. So nothing more is said of them where all numbers
-- are the shortest.
abbrev pub step2_in : Style → GDelta → List ℕ → Type 0
step2_in style = IsImage step2 SpellsDelta2

abbrev pub step3_in : Style → GDelta → List ℕ → Type 0
step3_in style = IsImage step3 SpellsDelta3

abbrev pub turns_in : Bool → ℕ → Style → List GDelta → List ℕ → Type 0
turns_in along_x count style = IsImage (alternating along_x) (IsCount SpellsDelta1 count)

-- this many steps
abbrev pub steps_in : (Style → GDelta → List ℕ → Type 0) → ℕ → Style → List GDelta → List ℕ → Type 0
steps_in spells count style = IsCount (spells style) count

-- this many deltas of a list of that type, which has type 4 in the shortest style
abbrev pub deltas_of : ℕ → ℕ → Style → List GDelta → List ℕ → Type 0
deltas_of kind count Any = deltas_in kind count
deltas_of kind count Shortest = λ steps bytes. kind ≡ 4 → IsCount (gdelta_in Shortest) count steps bytes
