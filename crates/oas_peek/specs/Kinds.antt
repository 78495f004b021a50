-- The kind of an element at the start of some bytes, by its id.
use Rattle.std.specs.Prelude.{ℕ, ◌==◌, ◌||◌, if◌then◌else◌, List, [], ◌∷◌}
use Rattle.oas_peek.specs.declared.kinds.KindAtHand.{KindAtHand}
use Rattle.oas_peek.specs.declared.kinds.KindAtHand.TheVariants.{Rectangle, Named, Figure, Other}

-- a rectangle; a placement by quarter turns or a text; a polygon or a path
abbrev pub kind_at : List ℕ → KindAtHand
kind_at [] = Other
kind_at (id ∷ rest) = if id == 20 then Rectangle else (if (id == 17) || (id == 19) then Named else (if (id == 21) || (id == 22) then Figure else Other))
