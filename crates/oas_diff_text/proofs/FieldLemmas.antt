-- The fields of an element that has points.
use Rattle.std.proofs.Common.{◌≡◌, ℕ, List, [], ◌∷◌, ◌++◌, Option, ◌∙◌, ap, append-nil}
use Rattle.std.specs.Prelude.{codes}
use Rattle.std.proofs.lemmas.Grind.{flat_map-append}
use Rattle.oas_num.specs.Ratio.{Ratio}
use Rattle.oas_ring.specs.declared.point.Point.{Point}
use Rattle.oas_diff_options.specs.declared.format.Syntax.{Syntax}
use Rattle.oas_diff_text.specs.Fields.{key, fields, places}

-- they are the last one
pub points_last : (syntax : Syntax) (scale : Option Ratio) (fs : List (List ℕ × List ℕ)) (points : List Point) →
    fields syntax (fs ++ (codes "points", places syntax scale points) ∷ []) ≡ fields syntax fs ++ (key syntax (codes "points") ++ places syntax scale points)
points_last syntax scale fs points =
    flat_map-append (λ f. key syntax f.0 ++ f.1) fs ((codes "points", places syntax scale points) ∷ [])
    ∙ ap (λ (t : List ℕ). fields syntax fs ++ t) (append-nil (key syntax (codes "points") ++ places syntax scale points))
