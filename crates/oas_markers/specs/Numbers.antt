-- Points in microns.
use Rattle.std.specs.Prelude.{ℤ, ℕ, List, [], ◌∷◌, ◌++◌, flat_map}
use Rattle.oas_num.specs.Ratio.{Ratio}
use Rattle.oas_ring.specs.declared.point.Point.{Point}
use Rattle.oas_difference.specs.Microns.{microns}

-- X,Y
abbrev pub place : Ratio → ℤ → ℤ → List ℕ
place unit x y = microns unit x ++ (44 ∷ microns unit y)

-- X,Y;X,Y;..
abbrev pub places : Ratio → List Point → List ℕ
places unit [] = []
places unit (p ∷ ps) = place unit p.x p.y ++ flat_map (λ q. 59 ∷ place unit q.x q.y) ps
