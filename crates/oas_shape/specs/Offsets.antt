-- The copies of a repetition (SEMI P39, Repetitions). A dimension d means d + 2 copies.
use Rattle.std.specs.Prelude.{ℕ, pos, ◌+◌, ◌*◌, ◌/◌, ◌%◌, List, map, length, slice_index_or}
use Rattle.oas_num.specs.declared.deltas.GDelta.{GDelta}
use Rattle.oas_num.specs.Deltas.{step}
use Rattle.oas_shape.specs.declared.repetitions.Repetition.{Repetition}
use Rattle.oas_shape.specs.declared.repetitions.Repetition.TheVariants.{Matrix, Columns, Rows, Lattice, Line, Listed}
use Rattle.oas_shape.specs.Steps.{sums, times, added, still}

-- how many copies there are
abbrev pub count_of : Repetition → ℕ
count_of (Matrix x_dim y_dim x_space y_space) = (x_dim + 2) * (y_dim + 2)
count_of (Columns dim space) = dim + 2
count_of (Rows dim space) = dim + 2
count_of (Lattice n_dim m_dim n m) = (n_dim + 2) * (m_dim + 2)
count_of (Line dim by) = dim + 2
count_of (Listed offsets) = length offsets

-- whether it lists the offsets of its copies
abbrev pub HasList : Repetition → Type 0
HasList (Listed offsets) = Unit {0}
HasList _ = ⊥

-- the offset of copy i
abbrev pub offset_of : Repetition → ℕ → GDelta
offset_of (Matrix x_dim y_dim x_space y_space) i = step (pos (i % (x_dim + 2) * x_space)) (pos (i / (x_dim + 2) * y_space))
offset_of (Columns dim space) i = step (pos (i * space)) (pos 0)
offset_of (Rows dim space) i = step (pos 0) (pos (i * space))
offset_of (Lattice n_dim m_dim n m) i = added (times (i % (n_dim + 2)) n) (times (i / (n_dim + 2)) m)
offset_of (Line dim by) i = times i by
offset_of (Listed offsets) i = slice_index_or offsets i still

-- the offsets of a list: the grid times the sum of the first 0, 1, 2 and so on of the displacements
abbrev pub offsets_by : ℕ → List GDelta → List GDelta
offsets_by grid displacements = map (times grid) (sums displacements)
