-- How repetitions are spelled (SEMI P39, Repetitions).
use Rattle.std.specs.Prelude.{ℕ, pos, ◌+◌, ◌<◌, ◌==◌, Bool, true, false, List, [], ◌∷◌, ◌++◌, length, Option, Some, None}
use Rattle.std.specs.List.{AllByRecursion}
use Rattle.oas_num.specs.declared.refusals.Why.{Why}
use Rattle.oas_num.specs.declared.refusals.Why.TheVariants.{RepetitionKind, CoordinateRange, Memory}
use Rattle.oas_num.specs.declared.deltas.GDelta.{GDelta}
use Rattle.oas_num.specs.Grammar.{IsPair, IsSuch, IsImage, IsThere, IsCount, IsEach}
use Rattle.oas_num.specs.Combinators.{IsEither, IsExactly, IsNever}
use Rattle.oas_num.specs.Integers.{IsUnsigned}
use Rattle.oas_num.specs.Style.{Style, Any, Shortest}
use Rattle.oas_num.specs.Deltas.{SpellsGDelta, GDeltaTook, step}
use Rattle.oas_num.specs.Pieces.{IsAfter, PairTook, ThereTook, SuchTook, Unless}
use Rattle.oas_num.specs.Reading.{IntegerMay}
use Rattle.oas_shape.specs.declared.offsets.Along.{Along}
use Rattle.oas_shape.specs.declared.offsets.Along.TheVariants.{X, Y, Free}
use Rattle.oas_shape.specs.declared.repetitions.Repetition.{Repetition}
use Rattle.oas_shape.specs.declared.repetitions.Repetition.TheVariants.{Matrix, Columns, Rows, Lattice, Line, Listed}
use Rattle.oas_shape.specs.declared.repetitions.RepField.{RepField}
use Rattle.oas_shape.specs.declared.repetitions.RepField.TheVariants.{Again, New}
use Rattle.oas_shape.specs.Steps.{IsPartialSum}
use Rattle.oas_shape.specs.Offsets.{offsets_by}

-- there are twelve types
abbrev pub IsRepetitionKind : ℕ → Type 0
IsRepetitionKind kind = kind < 12

-- two numbers
abbrev pub AreTwo : ℕ × ℕ → List ℕ → Type 0
AreTwo = IsPair IsUnsigned (λ _. IsUnsigned)

-- type 1: the dimensions of x and y, and the spaces
abbrev pub matrix_of : (ℕ × ℕ) × (ℕ × ℕ) → Repetition
matrix_of p = Matrix p.0.0 p.0.1 p.1.0 p.1.1

abbrev pub IsMatrix : Repetition → List ℕ → Type 0
IsMatrix = IsImage matrix_of (IsPair AreTwo (λ _. AreTwo))

-- types 2 and 3: a dimension and a space
abbrev pub columns_of : ℕ × ℕ → Repetition
columns_of p = Columns p.0 p.1

abbrev pub IsColumns : Repetition → List ℕ → Type 0
IsColumns = IsImage columns_of AreTwo

abbrev pub rows_of : ℕ × ℕ → Repetition
rows_of p = Rows p.0 p.1

abbrev pub IsRows : Repetition → List ℕ → Type 0
IsRows = IsImage rows_of AreTwo

-- type 8: two dimensions, and a displacement for each
abbrev pub lattice_of : (ℕ × ℕ) × (GDelta × GDelta) → Repetition
lattice_of p = Lattice p.0.0 p.0.1 p.1.0 p.1.1

abbrev pub IsLattice : Repetition → List ℕ → Type 0
IsLattice = IsImage lattice_of (IsPair AreTwo (λ _. IsPair SpellsGDelta (λ _. SpellsGDelta)))

-- type 9: a dimension and a displacement
abbrev pub line_of : ℕ × GDelta → Repetition
line_of p = Line p.0 p.1

abbrev pub IsLine : Repetition → List ℕ → Type 0
IsLine = IsImage line_of (IsPair IsUnsigned (λ _. SpellsGDelta))

-- one displacement of a list: a space along an axis, or a g-delta
abbrev pub x_space : ℕ → GDelta
x_space n = step (pos n) (pos 0)

abbrev pub y_space : ℕ → GDelta
y_space n = step (pos 0) (pos n)

abbrev pub displacement_in : Along → GDelta → List ℕ → Type 0
displacement_in X = IsImage x_space IsUnsigned
displacement_in Y = IsImage y_space IsUnsigned
displacement_in Free = SpellsGDelta

-- this many displacements, with no sum after the grid that exceeds the limit
abbrev pub IsOffsets : Along → ℕ → ℕ → List GDelta → List ℕ → Type 0
IsOffsets along grid count = IsSuch (AllByRecursion IsPartialSum) (IsImage (offsets_by grid) (IsCount (displacement_in along) count))

-- without a grid it is 1
abbrev pub grid_of : Option ℕ → ℕ
grid_of None = 1
grid_of (Some grid) = grid

abbrev pub listed_of : ℕ × (Option ℕ × List GDelta) → Repetition
listed_of p = Listed p.1.1

-- types 4 to 7, 10 and 11: a dimension, a grid where the type has one, and one more displacement than the dimension
abbrev pub after_dim : Along → Bool → ℕ → Option ℕ × List GDelta → List ℕ → Type 0
after_dim along has_grid dim = IsPair (IsThere has_grid IsUnsigned) (λ grid. IsOffsets along (grid_of grid) (dim + 1))

abbrev pub IsListed : Along → Bool → Repetition → List ℕ → Type 0
IsListed along has_grid = IsImage listed_of (IsPair IsUnsigned (after_dim along has_grid))

-- the fields of types 1 to 11
abbrev pub repetition_by : ℕ → Repetition → List ℕ → Type 0
repetition_by kind =
    IsEither (kind == 1) IsMatrix
    (IsEither (kind == 2) IsColumns
    (IsEither (kind == 3) IsRows
    (IsEither (kind == 4) (IsListed X false)
    (IsEither (kind == 5) (IsListed X true)
    (IsEither (kind == 6) (IsListed Y false)
    (IsEither (kind == 7) (IsListed Y true)
    (IsEither (kind == 8) IsLattice
    (IsEither (kind == 9) IsLine
    (IsEither (kind == 10) (IsListed Free false)
    (IsListed Free true))))))))))

-- type 0 is the repetition before
abbrev pub again : Unit {0} → RepField
again _ = Again

abbrev pub field_by : ℕ → RepField → List ℕ → Type 0
field_by kind = IsEither (kind == 0) (IsImage again (IsExactly [])) (IsImage New (repetition_by kind))

abbrev pub field_of : ℕ × RepField → RepField
field_of p = p.1

-- a repetition field, in a style: a type and its fields; a canonical file has no repetition
abbrev pub rep_field_in : Style → RepField → List ℕ → Type 0
rep_field_in Any = IsImage field_of (IsPair (IsSuch IsRepetitionKind IsUnsigned) field_by)
rep_field_in Shortest = IsNever

-- ---- where a read may fail

-- two numbers: in the first, or in the second
abbrev pub TwoTook : Why → List ℕ → Type 0
TwoTook = PairTook IsUnsigned IntegerMay (λ _. IntegerMay)

abbrev pub MatrixTook : Why → List ℕ → Type 0
MatrixTook = PairTook AreTwo TwoTook (λ _. TwoTook)

abbrev pub LatticeTook : Why → List ℕ → Type 0
LatticeTook = PairTook AreTwo TwoTook (λ _. PairTook SpellsGDelta GDeltaTook (λ _. GDeltaTook))

abbrev pub LineTook : Why → List ℕ → Type 0
LineTook = PairTook IsUnsigned IntegerMay (λ _. GDeltaTook)

abbrev pub DisplacementTook : Along → Why → List ℕ → Type 0
DisplacementTook X = IntegerMay
DisplacementTook Y = IntegerMay
DisplacementTook Free = GDeltaTook

-- Why a displacement is refused that was read after those: with it a sum exceeds the limit; or else there is no memory for
-- it. It is judged as a whole, as the first number of a g-delta may have made a sum exceed the limit already.
abbrev pub RefusesNext : ℕ → List GDelta → GDelta → Why → Type 0
RefusesNext grid before d CoordinateRange = ¬ AllByRecursion IsPartialSum (offsets_by grid (before ++ d ∷ []))
RefusesNext grid before d Memory = AllByRecursion IsPartialSum (offsets_by grid (before ++ d ∷ []))
RefusesNext grid before d _ = ⊥

-- this many displacements: fewer are spelled, with no sum that exceeds the limit, and then in the next
abbrev pub OffsetsTook : Along → ℕ → ℕ → Why → List ℕ → Type 0
OffsetsTook along grid count why bytes =
    IsAfter (IsEach (displacement_in along))
    (λ before last. (length before < count) × AllByRecursion IsPartialSum (offsets_by grid before) × SuchTook (displacement_in along) (DisplacementTook along) (RefusesNext grid before) why last) bytes

abbrev pub AfterDimTook : Along → Bool → ℕ → Why → List ℕ → Type 0
AfterDimTook along has_grid dim = PairTook (IsThere has_grid IsUnsigned) (ThereTook has_grid IntegerMay) (λ grid. OffsetsTook along (grid_of grid) (dim + 1))

-- in the dimension, in the grid where there is one, or in the displacements
abbrev pub ListedTook : Along → Bool → Why → List ℕ → Type 0
ListedTook along has_grid = PairTook IsUnsigned IntegerMay (AfterDimTook along has_grid)

-- the fields of types 1 to 11, one after another
abbrev pub RepetitionTook : ℕ → Why → List ℕ → Type 0
RepetitionTook kind =
    IsEither (kind == 1) MatrixTook
    (IsEither (kind == 2) TwoTook
    (IsEither (kind == 3) TwoTook
    (IsEither (kind == 4) (ListedTook X false)
    (IsEither (kind == 5) (ListedTook X true)
    (IsEither (kind == 6) (ListedTook Y false)
    (IsEither (kind == 7) (ListedTook Y true)
    (IsEither (kind == 8) LatticeTook
    (IsEither (kind == 9) LineTook
    (IsEither (kind == 10) (ListedTook Free false)
    (ListedTook Free true))))))))))

-- type 0 has no field that could go wrong
abbrev pub FieldTook : ℕ → Why → List ℕ → Type 0
FieldTook kind = IsEither (kind == 0) IsNever (RepetitionTook kind)

-- in the type, or there is no such type, or in its fields
abbrev pub RepFieldTook : Why → List ℕ → Type 0
RepFieldTook = PairTook (IsSuch IsRepetitionKind IsUnsigned) (SuchTook IsUnsigned IntegerMay (Unless IsRepetitionKind RepetitionKind)) FieldTook
