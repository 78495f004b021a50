-- Cells that are drawn alike, whatever the order of what is drawn.
use Rattle.std.specs.Prelude.{◌≡◌, ℕ, List, [], ◌∷◌, sum_by}
use Rattle.oas_num.specs.Ratio.{Ratio}
use Rattle.oas_elements.specs.declared.limits.Limits.{Limits}
use Rattle.oas_elements.specs.declared.profile.Profile.{Profile}
use Rattle.oas_elements.specs.Meaning.{SameLayout}
use Rattle.oas_drawing.specs.declared.drawn.Drawn.{Drawn}
use Rattle.oas_reader.specs.Meaning.{DrawnCell, meaning_by, end_reason}

-- each thing is drawn as often: whatever each counts for, the sums are equal
pub record SameDrawn (xs ys : List Drawn) : Type 0 where
  pub sums : (g : Drawn → ℕ) → sum_by g xs ≡ sum_by g ys

-- the same references in the same order, and in each cell each thing drawn as often
abbrev pub AlikeCells : List DrawnCell → List DrawnCell → Type 0
AlikeCells [] [] = Unit {0}
AlikeCells [] (d ∷ ds) = ⊥
AlikeCells (c ∷ cs) [] = ⊥
AlikeCells (c ∷ cs) (d ∷ ds) = (c.0 ≡ d.0) × SameDrawn c.1 d.1 × AlikeCells cs ds

-- they are refused alike, and mean the same
pub record IsAlike (names strings : List (ℕ × List ℕ)) (limits : Limits) (unit : Ratio) (profile : Profile) (cs ds : List DrawnCell) : Type 0 where
  pub refused : end_reason names strings limits cs ≡ end_reason names strings limits ds
  pub same : SameLayout profile (meaning_by names strings unit cs) (meaning_by names strings unit ds)

-- cells that are drawn alike are
abbrev pub AlikeMeanings : Type 0
AlikeMeanings = (names strings : List (ℕ × List ℕ)) (limits : Limits) (unit : Ratio) (profile : Profile) (cs ds : List DrawnCell) → AlikeCells cs ds → IsAlike names strings limits unit profile cs ds
