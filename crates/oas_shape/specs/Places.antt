-- The places of a repetition's copies, with equally many on each.
use Rattle.std.specs.Prelude.{◌≡◌, ℕ, ◌+◌, ◌*◌, ◌<◌, ◌==◌, ◌&&◌, nat_abs, Bool, true, false, length, map, sum_by}
use Rattle.std.specs.List.{range_with_len}
use Rattle.oas_num.specs.declared.deltas.GDelta.{GDelta}
use Rattle.oas_shape.specs.declared.repetitions.Repetition.{Repetition}
use Rattle.oas_shape.specs.declared.repetitions.Repetition.TheVariants.{Matrix, Columns, Rows, Lattice, Line, Listed}
use Rattle.oas_shape.specs.declared.places.Places.{Places}
use Rattle.oas_shape.specs.Offsets.{count_of, offset_of}

-- a step leads nowhere
abbrev pub is_still : GDelta → Bool
is_still d = (nat_abs d.dx == 0) && (nat_abs d.dy == 0)

-- the places of copies along one dimension: one, where its step leads nowhere
abbrev pub places_one_way : ℕ → Bool → Places
places_one_way count true = record { number = 1; copies = count; stride = 1 }
places_one_way count false = record { number = count; copies = 1; stride = 1 }

-- the places of columns and rows: a row, or a column, or only its first copy, where a step leads nowhere
abbrev pub places_two_ways : ℕ → Bool → ℕ → Bool → Places
places_two_ways columns true rows true = places_one_way (columns * rows) true
places_two_ways columns true rows false = record { number = rows; copies = columns; stride = columns }
places_two_ways columns false rows true = record { number = columns; copies = rows; stride = 1 }
places_two_ways columns false rows false = places_one_way (columns * rows) false

abbrev pub places_of : Repetition → Places
places_of (Matrix x_dim y_dim x_space y_space) = places_two_ways (x_dim + 2) (x_space == 0) (y_dim + 2) (y_space == 0)
places_of (Columns dim space) = places_one_way (dim + 2) (space == 0)
places_of (Rows dim space) = places_one_way (dim + 2) (space == 0)
places_of (Lattice n_dim m_dim n m) = places_two_ways (n_dim + 2) (is_still n) (m_dim + 2) (is_still m)
places_of (Line dim by) = places_one_way (dim + 2) (is_still by)
places_of (Listed offsets) = places_one_way (length offsets) false

-- These are the places of this many copies, where copy i is at f i: each place is where one of the copies is, and whatever
-- each offset counts for, all copies together count for what the places do, times the copies on each.
pub record ArePlaces (count : ℕ) (f : ℕ → GDelta) (p : Places) : Type 0 where
  pub some : 0 < p.copies
  pub all : p.number * p.copies ≡ count
  pub within : (j : ℕ) → j < p.number → j * p.stride < count
  pub sums : (g : GDelta → ℕ) → sum_by g (map f (range_with_len 0 count)) ≡ p.copies * sum_by g (map (λ j. f (j * p.stride)) (range_with_len 0 p.number))

-- the places of each repetition
abbrev pub PlacesOf : Repetition → Type 0
PlacesOf r = ArePlaces (count_of r) (offset_of r) (places_of r)
