-- The listed offsets of a repetition.
use Rattle.std.specs.Prelude.{◌≡◌, ◌≤◌, List, ◌∷◌, length}
use Rattle.oas_num.specs.declared.deltas.GDelta.{GDelta}
use Rattle.oas_shape.specs.Steps.{still}

-- a list of offsets: at least two, the first of which is no step
pub record AreOffsets (offsets : List GDelta) : Type 0 where
  pub two : 2 ≤ length offsets
  pub rest : List GDelta
  pub first : offsets ≡ still ∷ rest
