-- The parts of a repetition field, one after another.
use Rattle.std.proofs.Common.{◌≡◌, ◌≢◌, ℕ, ◌+◌, ◌≤◌, Bool, [], Option, refl, sym, subst, arith}
use Rattle.std.proofs.lemmas.Bool.{ne_eqb}
use Rattle.oas_num.specs.declared.refusals.Why.{Why}
use Rattle.oas_num.specs.Script.{Script}
use Rattle.oas_num.specs.Grammar.{IsPair, IsSuch, IsThere}
use Rattle.oas_num.specs.Integers.{IsUnsigned}
use Rattle.oas_num.specs.Laws.IntegerLaws.{PrefixFree-IsUnsigned}
use Rattle.oas_num.specs.Style.{Any}
use Rattle.oas_num.specs.Reading.{ReadsValue, FailsPiece}
use Rattle.oas_num.proofs.ReadLemmas.{Consumed-none}
use Rattle.oas_num.proofs.GrammarLemmas.{such_read}
use Rattle.oas_num.proofs.HalfwayLemmas.{Halfway, at_image, ◌▸◌, image_took}
use Rattle.oas_shape.specs.declared.offsets.Along.{Along}
use Rattle.oas_shape.specs.declared.repetitions.Repetition.{Repetition}
use Rattle.oas_shape.specs.declared.repetitions.RepField.{RepField}
use Rattle.oas_shape.specs.declared.repetitions.RepField.TheVariants.{Again, New}
use Rattle.oas_shape.specs.Repetitions.{IsRepetitionKind, IsOffsets, grid_of, listed_of, after_dim, IsListed, repetition_by, field_by, field_of, rep_field_in, OffsetsTook}
use Rattle.oas_shape.specs.Repetitions.{AfterDimTook, ListedTook, RepetitionTook, FieldTook, RepFieldTook}
use Rattle.oas_shape.specs.Laws.RepetitionLaws.{PrefixFree-kind, PrefixFree-grid}
use Rattle.oas_shape.proofs.ReadingLemmas.{image_read}

-- ---- a type that lists its displacements

module _ (along : Along) (has_grid : Bool) where
  -- the dimension was read
  pub with_dim : {old new : Script} {dim : ℕ} → ReadsValue IsUnsigned old dim new
      → Halfway (IsListed along has_grid) (after_dim along has_grid dim) (λ rest. listed_of (dim, rest)) (ListedTook along has_grid)
      (AfterDimTook along has_grid dim) old new
  with_dim {old = old} read = at_image old ▸ (PrefixFree-IsUnsigned, read)

  -- the grid was read, where there is one
  pub with_grid : {old mid new : Script} {dim : ℕ} {grid : Option ℕ} → ReadsValue IsUnsigned old dim mid → ReadsValue (IsThere has_grid IsUnsigned) mid grid new
      → Halfway (IsListed along has_grid) (IsOffsets along (grid_of grid) (dim + 1)) (λ offsets. listed_of (dim, (grid, offsets)))
      (ListedTook along has_grid) (OffsetsTook along (grid_of grid) (dim + 1)) old new
  with_grid first read = with_dim first ▸ (PrefixFree-grid has_grid, read)

-- ---- the whole field

-- nothing of a field was read
pub starts : (s : Script) → Halfway (rep_field_in Any) (IsPair (IsSuch IsRepetitionKind IsUnsigned) field_by) field_of RepFieldTook RepFieldTook s s
starts s = at_image {f = field_of} {A = IsPair (IsSuch IsRepetitionKind IsUnsigned) field_by} s

-- the type was read
pub with_kind : {old new : Script} {kind : ℕ} → kind ≤ 11 → ReadsValue IsUnsigned old kind new
    → Halfway (rep_field_in Any) (field_by kind) (λ (field : RepField). field) RepFieldTook (FieldTook kind) old new
with_kind {old = old} {new = new} {kind = kind} le read = starts old ▸ (PrefixFree-kind, such_read IsRepetitionKind IsUnsigned old new kind (omega arith) read)

-- type 0 has no fields
pub again_read : (s : Script) (kind : ℕ) → kind ≡ 0 → ReadsValue (field_by kind) s Again s
again_read s kind e = subst (λ (k : ℕ). ReadsValue (field_by k) s Again s) (sym e) (record { bytes = []; spelled = record { from = tt; is = refl; spelled = refl }; takes = Consumed-none s })

-- the other types have those of a repetition
pub new_read : {old new : Script} {kind : ℕ} {repetition : Repetition} → kind ≢ 0 → ReadsValue (repetition_by kind) old repetition new → ReadsValue (field_by kind) old (New repetition) new
new_read {kind = kind} isnt read = let e = ne_eqb kind 0 isnt in rw e (image_read New (repetition_by kind) read)

pub new_fails : {old new : Script} {kind : ℕ} {why : Why} → kind ≢ 0 → FailsPiece (repetition_by kind) (RepetitionTook kind) old why new → FailsPiece (field_by kind) (FieldTook kind) old why new
new_fails {kind = kind} isnt f = let e = ne_eqb kind 0 isnt in rw e (image_took {f = New} f)
