-- The laws of repetition fields: no spelling is a prefix of another; the shortest style has none.
use Rattle.std.proofs.Common.{◌≡◌, ℕ, zero, suc, pos, Bool, true, false, None, List, [], ◌∷◌, ◌++◌, length, map, ◌+◌, refl, sym, ap, subst, ◌∙◌, arith}
use Rattle.std.specs.Prelude.{◌==◌, ◌*ℤ◌}
use Rattle.std.proofs.lemmas.Int.{ints}
use Rattle.std.proofs.lemmas.List.{length-map}
use lib.IntN.{*ℤ-zero}
use Rattle.std.specs.List.{AllByRecursion}
use Rattle.oas_num.specs.Begun.{HasSome}
use Rattle.oas_num.specs.Laws.BegunLaws.{HasSome-exactly, HasSome-pair, HasSome-such, HasSome-image, HasSome-there, HasSome-either}
use Rattle.oas_num.specs.declared.deltas.GDelta.{GDelta}
use Rattle.oas_num.specs.Grammar.{PrefixFree, IsPair, IsSuch, IsImage, IsThere, IsEach, IsCount}
use Rattle.oas_num.specs.Laws.GrammarLaws.{PrefixFree-pair, PrefixFree-image, PrefixFree-such, PrefixFree-there, PrefixFree-count}
use Rattle.oas_num.specs.Combinators.{OneSpelling, IsWithin, IsExactly}
use Rattle.oas_num.specs.Laws.CombinatorLaws.{PrefixFree-either, PrefixFree-exactly, PrefixFree-never, OneSpelling-never}
use Rattle.oas_num.specs.Integers.{IsUnsigned}
use Rattle.oas_num.specs.Laws.IntegerLaws.{PrefixFree-IsUnsigned, zero_spelled, HasSome-IsUnsigned}
use Rattle.oas_num.specs.Style.{Style, Any, Shortest}
use Rattle.oas_num.specs.Deltas.{SpellsGDelta}
use Rattle.oas_num.specs.Laws.DeltaLaws.{GDelta-one_front, GDelta-some}
use Rattle.oas_shape.specs.declared.offsets.Along.{Along}
use Rattle.oas_shape.specs.declared.offsets.Along.TheVariants.{X, Y, Free}
use Rattle.oas_shape.specs.declared.repetitions.RepField.TheVariants.{New}
use Rattle.oas_num.specs.Deltas.{step}
use Rattle.oas_shape.specs.Steps.{IsPartialSum, added, still, times, sums_after}
use Rattle.oas_shape.specs.OffsetLists.{AreOffsets}
use Rattle.oas_shape.specs.Offsets.{offsets_by}
use Rattle.oas_shape.specs.Repetitions.{IsRepetitionKind, AreTwo, matrix_of, IsMatrix, columns_of, IsColumns, rows_of, IsRows, lattice_of, IsLattice, line_of, IsLine, x_space}
use Rattle.oas_shape.specs.Repetitions.{y_space, displacement_in, IsOffsets, grid_of, listed_of, after_dim, IsListed, repetition_by, again, field_by, field_of, rep_field_in}

-- the type, below 12
pub PrefixFree-kind : PrefixFree (IsSuch IsRepetitionKind IsUnsigned)
PrefixFree-kind = PrefixFree-such IsRepetitionKind IsUnsigned PrefixFree-IsUnsigned

-- two numbers
pub PrefixFree-two : PrefixFree AreTwo
PrefixFree-two = PrefixFree-pair IsUnsigned (λ _. IsUnsigned) PrefixFree-IsUnsigned (λ _. PrefixFree-IsUnsigned)

PrefixFree-matrix : PrefixFree IsMatrix
PrefixFree-matrix = PrefixFree-image matrix_of (IsPair AreTwo (λ _. AreTwo)) (PrefixFree-pair AreTwo (λ _. AreTwo) PrefixFree-two (λ _. PrefixFree-two))

PrefixFree-columns : PrefixFree IsColumns
PrefixFree-columns = PrefixFree-image columns_of AreTwo PrefixFree-two

PrefixFree-rows : PrefixFree IsRows
PrefixFree-rows = PrefixFree-image rows_of AreTwo PrefixFree-two

PrefixFree-lattice : PrefixFree IsLattice
PrefixFree-lattice =
    PrefixFree-image lattice_of (IsPair AreTwo (λ _. IsPair SpellsGDelta (λ _. SpellsGDelta)))
    (PrefixFree-pair AreTwo (λ _. IsPair SpellsGDelta (λ _. SpellsGDelta)) PrefixFree-two (λ _. PrefixFree-pair SpellsGDelta (λ _. SpellsGDelta) GDelta-one_front (λ _. GDelta-one_front)))

PrefixFree-line : PrefixFree IsLine
PrefixFree-line = PrefixFree-image line_of (IsPair IsUnsigned (λ _. SpellsGDelta)) (PrefixFree-pair IsUnsigned (λ _. SpellsGDelta) PrefixFree-IsUnsigned (λ _. GDelta-one_front))

-- one displacement of a list
pub PrefixFree-displacement : (along : Along) → PrefixFree (displacement_in along)
PrefixFree-displacement X = PrefixFree-image x_space IsUnsigned PrefixFree-IsUnsigned
PrefixFree-displacement Y = PrefixFree-image y_space IsUnsigned PrefixFree-IsUnsigned
PrefixFree-displacement Free = GDelta-one_front

-- the offsets of a list
pub PrefixFree-offsets : (along : Along) (grid count : ℕ) → PrefixFree (IsOffsets along grid count)
PrefixFree-offsets along grid count =
    PrefixFree-such (AllByRecursion IsPartialSum) (IsImage (offsets_by grid) (IsCount (displacement_in along) count))
    (PrefixFree-image (offsets_by grid) (IsCount (displacement_in along) count) (PrefixFree-count (displacement_in along) count (PrefixFree-displacement along)))

-- the optional grid
pub PrefixFree-grid : (has_grid : Bool) → PrefixFree (IsThere has_grid IsUnsigned)
PrefixFree-grid has_grid = PrefixFree-there has_grid IsUnsigned PrefixFree-IsUnsigned

PrefixFree-listed : (along : Along) (has_grid : Bool) → PrefixFree (IsListed along has_grid)
PrefixFree-listed along has_grid =
    PrefixFree-image listed_of (IsPair IsUnsigned (after_dim along has_grid))
    (PrefixFree-pair IsUnsigned (after_dim along has_grid) PrefixFree-IsUnsigned (λ dim.
    PrefixFree-pair (IsThere has_grid IsUnsigned) (λ grid. IsOffsets along (grid_of grid) (dim + 1)) (PrefixFree-grid has_grid) (λ grid. PrefixFree-offsets along (grid_of grid) (dim + 1))))

-- the fields of types 1 to 11
pub PrefixFree-repetition : (kind : ℕ) → PrefixFree (repetition_by kind)
PrefixFree-repetition kind =
    PrefixFree-either (kind == 1) _ _ PrefixFree-matrix
    (PrefixFree-either (kind == 2) _ _ PrefixFree-columns
    (PrefixFree-either (kind == 3) _ _ PrefixFree-rows
    (PrefixFree-either (kind == 4) _ _ (PrefixFree-listed X false)
    (PrefixFree-either (kind == 5) _ _ (PrefixFree-listed X true)
    (PrefixFree-either (kind == 6) _ _ (PrefixFree-listed Y false)
    (PrefixFree-either (kind == 7) _ _ (PrefixFree-listed Y true)
    (PrefixFree-either (kind == 8) _ _ PrefixFree-lattice
    (PrefixFree-either (kind == 9) _ _ PrefixFree-line
    (PrefixFree-either (kind == 10) _ _ (PrefixFree-listed Free false)
    (PrefixFree-listed Free true))))))))))

-- what follows the type
pub PrefixFree-field : (kind : ℕ) → PrefixFree (field_by kind)
PrefixFree-field kind = PrefixFree-either (kind == 0) _ _ (PrefixFree-image again (IsExactly []) (PrefixFree-exactly [])) (PrefixFree-image New (repetition_by kind) (PrefixFree-repetition kind))

-- in any style no spelling is a prefix of another
pub PrefixFree-rep_field : (style : Style) → PrefixFree (rep_field_in style)
PrefixFree-rep_field Any = PrefixFree-image field_of (IsPair (IsSuch IsRepetitionKind IsUnsigned) field_by) (PrefixFree-pair (IsSuch IsRepetitionKind IsUnsigned) field_by PrefixFree-kind PrefixFree-field)
PrefixFree-rep_field Shortest = PrefixFree-never

-- in the shortest style a repetition has no spelling, so at most one
pub OneSpelling-rep_field : OneSpelling (rep_field_in Shortest)
OneSpelling-rep_field = OneSpelling-never

-- and each is one that the standard allows
pub IsWithin-rep_field : IsWithin (rep_field_in Shortest) (rep_field_in Any)
IsWithin-rep_field = record { within = λ v a p. absurd p }

-- ---- some are spelled

-- a type has a spelling
pub HasSome-kind : HasSome (IsSuch IsRepetitionKind IsUnsigned)
HasSome-kind = HasSome-such IsRepetitionKind IsUnsigned 0 (0 ∷ []) zero_spelled (omega arith)

-- two numbers
pub HasSome-two : HasSome AreTwo
HasSome-two = HasSome-pair IsUnsigned (λ _. IsUnsigned) HasSome-IsUnsigned HasSome-IsUnsigned

times_still : (g : ℕ) → pos g *ℤ pos 0 ≡ pos 0
times_still g = *ℤ-zero (pos g)

-- no step, this many times
pub still_is : (grid : ℕ) → times grid still ≡ still
still_is grid = (λ i. step (times_still grid i) (times_still grid i))

pub still_near : IsPartialSum still
still_near = record { x = (omega (arith, ints), omega (arith, ints)); y = (omega (arith, ints), omega (arith, ints)) }

-- this many displacements, none of which goes anywhere
abbrev pub stays : ℕ → List GDelta
stays zero = []
stays (suc n) = still ∷ stays n

stays_spelled : (along : Along) → displacement_in along still (0 ∷ [])
stays_spelled X = record { from = 0; is = refl; spelled = zero_spelled }
stays_spelled Y = record { from = 0; is = refl; spelled = zero_spelled }
stays_spelled Free = record { from = (0, None); is = refl; spelled = record { front = 0 ∷ []; back = []; first = zero_spelled; second = refl; joined = refl } }

stays_each : (along : Along) (n : ℕ) → (bytes : List ℕ) × IsEach (displacement_in along) (stays n) bytes
stays_each along zero = ([], refl)
stays_each along (suc n) = let rest = stays_each along n in ((0 ∷ []) ++ rest.0, (0 ∷ [], rest.0, stays_spelled along, rest.1, refl))

stays_length : (n : ℕ) → length (stays n) ≡ n
stays_length zero = refl
stays_length (suc n) = ap suc (stays_length n)

stays_near : (grid n : ℕ) → AllByRecursion IsPartialSum (map (times grid) (sums_after still (stays n)))
stays_near grid zero = tt
stays_near grid (suc n) = (subst IsPartialSum (sym (still_is grid)) still_near, stays_near grid n)

-- this many displacements, with no sum that exceeds the limit
pub HasSome-offsets : (along : Along) (grid count : ℕ) → HasSome (IsOffsets along grid count)
HasSome-offsets along grid count =
    let each = stays_each along count in
    record {
      value = offsets_by grid (stays count);
      bytes = each.0;
      spelled = record {
        holds = (subst IsPartialSum (sym (still_is grid)) still_near, stays_near grid count);
        spelled = record { from = stays count; is = refl; spelled = record { len = stays_length count; each = each.1 } };
      };
    }

-- what follows a dimension
pub HasSome-after_dim : (along : Along) (has_grid : Bool) (dim : ℕ) → HasSome (after_dim along has_grid dim)
HasSome-after_dim along has_grid dim =
    let grid = HasSome-there has_grid IsUnsigned HasSome-IsUnsigned in
    HasSome-pair (IsThere has_grid IsUnsigned) (λ grid. IsOffsets along (grid_of grid) (dim + 1)) grid (HasSome-offsets along (grid_of grid.value) (dim + 1))

pub HasSome-listed : (along : Along) (has_grid : Bool) → HasSome (IsListed along has_grid)
HasSome-listed along has_grid =
    HasSome-image listed_of (IsPair IsUnsigned (after_dim along has_grid))
    (HasSome-pair IsUnsigned (after_dim along has_grid) HasSome-IsUnsigned (HasSome-after_dim along has_grid HasSome-IsUnsigned.value))

pub HasSome-matrix : HasSome IsMatrix
HasSome-matrix = HasSome-image matrix_of (IsPair AreTwo (λ _. AreTwo)) (HasSome-pair AreTwo (λ _. AreTwo) HasSome-two HasSome-two)

-- two displacements
pub HasSome-steps : HasSome (IsPair SpellsGDelta (λ _. SpellsGDelta))
HasSome-steps = HasSome-pair SpellsGDelta (λ _. SpellsGDelta) GDelta-some GDelta-some

pub HasSome-lattice : HasSome IsLattice
HasSome-lattice =
    HasSome-image lattice_of (IsPair AreTwo (λ _. IsPair SpellsGDelta (λ _. SpellsGDelta)))
    (HasSome-pair AreTwo (λ _. IsPair SpellsGDelta (λ _. SpellsGDelta)) HasSome-two HasSome-steps)

pub HasSome-line : HasSome IsLine
HasSome-line = HasSome-image line_of (IsPair IsUnsigned (λ _. SpellsGDelta)) (HasSome-pair IsUnsigned (λ _. SpellsGDelta) HasSome-IsUnsigned GDelta-some)

-- the fields of each of types 1 to 11
pub HasSome-repetition : (kind : ℕ) → HasSome (repetition_by kind)
HasSome-repetition kind =
    HasSome-either (kind == 1) _ _ HasSome-matrix
    (HasSome-either (kind == 2) _ _ (HasSome-image columns_of AreTwo HasSome-two)
    (HasSome-either (kind == 3) _ _ (HasSome-image rows_of AreTwo HasSome-two)
    (HasSome-either (kind == 4) _ _ (HasSome-listed X false)
    (HasSome-either (kind == 5) _ _ (HasSome-listed X true)
    (HasSome-either (kind == 6) _ _ (HasSome-listed Y false)
    (HasSome-either (kind == 7) _ _ (HasSome-listed Y true)
    (HasSome-either (kind == 8) _ _ HasSome-lattice
    (HasSome-either (kind == 9) _ _ HasSome-line
    (HasSome-either (kind == 10) _ _ (HasSome-listed Free false)
    (HasSome-listed Free true))))))))))

-- what follows each type has a spelling
pub HasSome-field : (kind : ℕ) → HasSome (field_by kind)
HasSome-field kind =
    HasSome-either (kind == 0) _ _ (HasSome-image again (IsExactly []) (HasSome-exactly []))
    (HasSome-image New (repetition_by kind) (HasSome-repetition kind))

-- a repetition field has a spelling
pub HasSome-rep_field : HasSome (rep_field_in Any)
HasSome-rep_field =
    HasSome-image field_of (IsPair (IsSuch IsRepetitionKind IsUnsigned) field_by)
    (HasSome-pair (IsSuch IsRepetitionKind IsUnsigned) field_by HasSome-kind (HasSome-field HasSome-kind.value))

-- ---- what is listed

sums-length : (before : GDelta) (ds : List GDelta) → length (sums_after before ds) ≡ length ds
sums-length before [] = refl
sums-length before (d ∷ ds) = ap suc (sums-length (added before d) ds)

offsets-length : (grid : ℕ) (ds : List GDelta) → length (offsets_by grid ds) ≡ length ds + 1
offsets-length grid ds = let e = length-map (sums_after still ds) (times grid) in let f = sums-length still ds in omega (arith, e, f)

-- one more offset than displacements
pub offsets_len : (along : Along) (grid count : ℕ) (offsets : List GDelta) (bytes : List ℕ) → IsOffsets along grid count offsets bytes → length offsets ≡ count + 1
offsets_len along grid count offsets bytes p =
    let s = p.spelled in
    let e = ap (λ (xs : List GDelta). length xs) s.is in
    omega (arith, e, offsets-length grid s.from, s.spelled.len)

-- the first is that of the element itself
pub offsets_are : (along : Along) (grid more : ℕ) (offsets : List GDelta) (bytes : List ℕ) → IsOffsets along grid (more + 1) offsets bytes → AreOffsets offsets
offsets_are along grid more offsets bytes p =
    let s = p.spelled in
    record {
      two = omega (arith, offsets_len along grid (more + 1) offsets bytes p);
      rest = map (times grid) (sums_after still s.from);
      first = sym s.is ∙ ap (λ (d : GDelta). d ∷ map (times grid) (sums_after still s.from)) (still_is grid);
    }
