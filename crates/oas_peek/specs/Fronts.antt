-- The bytes that are left, and what is taken from their start.
use Rattle.std.specs.Prelude.{◌≡◌, ℕ, ◌<◌, Bool, ◌&&◌, IsTrue, List, ◌∷◌, ◌++◌}
use Rattle.oas_record.specs.Kinds.{Kind}

-- the bytes that are left, and whether those before them were spelled in the shortest style
pub record Left : Type 0 where
  pub bytes : List ℕ
  pub shortest : Bool

-- the first byte was taken
pub record ConsumesByte (b : ℕ) (old new : Left) : Type 0 where
  pub joined : old.bytes ≡ b ∷ new.bytes
  pub small : b < 256
  pub shortest : new.shortest ≡ old.shortest

-- bytes were taken that spell the value, in the shortest style where that is said
pub record ConsumesPrefix {V : Type 0} (A : Kind V) (v : V) (old new : Left) : Type 0 where
  pub bytes : List ℕ
  pub joined : old.bytes ≡ bytes ++ new.bytes
  pub spelled : A.any v bytes
  pub shortest : IsTrue new.shortest → IsTrue old.shortest × A.shortest v bytes

-- the same for bytes of which the first was taken before
abbrev pub behind : ℕ → Left → Left
behind first left = record { bytes = first ∷ left.bytes; shortest = left.shortest }

-- what was taken last is the shortest, or not
abbrev pub noted : Bool → Left → Left
noted shortest left = record { bytes = left.bytes; shortest = left.shortest && shortest }
