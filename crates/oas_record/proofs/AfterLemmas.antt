-- Reading what follows an id.
use Rattle.std.proofs.Common.{◌≡◌, ℕ, Bool, true, false, List, [], Option, inl, inr, refl, subst}
use Rattle.std.specs.Prelude.{◌==◌, ◌⊎◌}
use Rattle.oas_num.specs.declared.refusals.Why.{Why}
use Rattle.oas_num.specs.Script.{Script}
use Rattle.oas_num.specs.Style.{Any}
use Rattle.oas_num.specs.Reading.{ReadsValue, FailsPiece}
use Rattle.oas_num.proofs.ReadLemmas.{Consumed-none}
use Rattle.oas_num.proofs.MidwayLemmas.{image_fails}
use Rattle.oas_record.specs.declared.records.Record.{Record}
use Rattle.oas_record.specs.declared.references.CellRef.{CellRef}
use Rattle.oas_record.specs.References.{cell_in, CellTook}
use Rattle.oas_record.specs.NameRecords.{cell_name_in, CellNameTook, text_string_in, TextStringTook}
use Rattle.oas_record.specs.Records.{pad, xy_absolute, xy_relative, cell_name, text_string, a_cell, after_id}
use Rattle.oas_record.specs.Refusals.{AfterTook}
use Rattle.oas_num.specs.Grammar.{IsImage}

-- ---- no fields

module _ (in_end : Bool) (id : ℕ) (s : Script) where
  pub pad_read : id ≡ 0 → ReadsValue (after_id Any in_end id) s (pad tt) s
  pad_read is = rw is (record { bytes = []; spelled = record { from = tt; is = refl; spelled = refl }; takes = Consumed-none s })

  pub xy_absolute_read : id ≡ 15 → ReadsValue (after_id Any in_end id) s (xy_absolute tt) s
  xy_absolute_read is = rw is (record { bytes = []; spelled = record { from = tt; is = refl; spelled = refl }; takes = Consumed-none s })

  pub xy_relative_read : id ≡ 16 → ReadsValue (after_id Any in_end id) s (xy_relative tt) s
  xy_relative_read is = rw is (record { bytes = []; spelled = record { from = tt; is = refl; spelled = refl }; takes = Consumed-none s })

-- ---- the fields of a kind

-- it is read
pub kind_read : {U : Type 0} {A : U → List ℕ → Type 0} {old new : Script} {v : U} (of : U → Record) → ReadsValue A old v new → ReadsValue (IsImage of A) old (of v) new
kind_read {v = v} of read = record { bytes = read.bytes; spelled = record { from = v; is = refl; spelled = read.spelled }; takes = read.takes }

-- what holds for the id itself
module _ {old new : Script} (in_end : Bool) (id n : ℕ) (is : id ≡ n) where
  pub fails_at : {why : Why} → FailsPiece (after_id Any in_end n) (AfterTook in_end n) old why new → FailsPiece (after_id Any in_end id) (AfterTook in_end id) old why new
  fails_at f = rw is f

  pub read_at : {v : Record} → ReadsValue (after_id Any in_end n) old v new → ReadsValue (after_id Any in_end id) old v new
  read_at read = rw is read

-- ---- two ids

module _ {old new : Script} {why : Why} (in_end : Bool) (id : ℕ) where
  pub cell_name_fails : (id ≡ 3) ⊎ (id ≡ 4) → FailsPiece (cell_name_in Any (id == 4)) (CellNameTook (id == 4)) old why new → FailsPiece (after_id Any in_end id) (AfterTook in_end id) old why new
  cell_name_fails (inl e) f = let test : (id == 4) ≡ false = rw e refl in fails_at in_end id 3 e (image_fails cell_name (subst (λ t. FailsPiece (cell_name_in Any t) (CellNameTook t) old why new) test f))
  cell_name_fails (inr e) f = let test : (id == 4) ≡ true = rw e refl in fails_at in_end id 4 e (image_fails cell_name (subst (λ t. FailsPiece (cell_name_in Any t) (CellNameTook t) old why new) test f))

  pub text_string_fails : (id ≡ 5) ⊎ (id ≡ 6) → FailsPiece (text_string_in Any (id == 6)) (TextStringTook (id == 6)) old why new → FailsPiece (after_id Any in_end id) (AfterTook in_end id) old why new
  text_string_fails (inl e) f = let test : (id == 6) ≡ false = rw e refl in fails_at in_end id 5 e (image_fails text_string (subst (λ t. FailsPiece (text_string_in Any t) (TextStringTook t) old why new) test f))
  text_string_fails (inr e) f = let test : (id == 6) ≡ true = rw e refl in fails_at in_end id 6 e (image_fails text_string (subst (λ t. FailsPiece (text_string_in Any t) (TextStringTook t) old why new) test f))

  pub cell_fails : (id ≡ 13) ⊎ (id ≡ 14) → FailsPiece (cell_in Any (id == 13)) (CellTook (id == 13)) old why new → FailsPiece (after_id Any in_end id) (AfterTook in_end id) old why new
  cell_fails (inl e) f = let test : (id == 13) ≡ true = rw e refl in fails_at in_end id 13 e (image_fails a_cell (subst (λ t. FailsPiece (cell_in Any t) (CellTook t) old why new) test f))
  cell_fails (inr e) f = let test : (id == 13) ≡ false = rw e refl in fails_at in_end id 14 e (image_fails a_cell (subst (λ t. FailsPiece (cell_in Any t) (CellTook t) old why new) test f))

module _ {old new : Script} (in_end : Bool) (id : ℕ) where
  pub cell_name_read : (v : List ℕ × Option ℕ) → (id ≡ 3) ⊎ (id ≡ 4) → ReadsValue (cell_name_in Any (id == 4)) old v new → ReadsValue (after_id Any in_end id) old (cell_name v) new
  cell_name_read v (inl e) f = let test : (id == 4) ≡ false = rw e refl in read_at in_end id 3 e (kind_read cell_name (subst (λ t. ReadsValue (cell_name_in Any t) old v new) test f))
  cell_name_read v (inr e) f = let test : (id == 4) ≡ true = rw e refl in read_at in_end id 4 e (kind_read cell_name (subst (λ t. ReadsValue (cell_name_in Any t) old v new) test f))

  pub text_string_read : (v : List ℕ × Option ℕ) → (id ≡ 5) ⊎ (id ≡ 6) → ReadsValue (text_string_in Any (id == 6)) old v new → ReadsValue (after_id Any in_end id) old (text_string v) new
  text_string_read v (inl e) f = let test : (id == 6) ≡ false = rw e refl in read_at in_end id 5 e (kind_read text_string (subst (λ t. ReadsValue (text_string_in Any t) old v new) test f))
  text_string_read v (inr e) f = let test : (id == 6) ≡ true = rw e refl in read_at in_end id 6 e (kind_read text_string (subst (λ t. ReadsValue (text_string_in Any t) old v new) test f))

  pub cell_read : (v : CellRef) → (id ≡ 13) ⊎ (id ≡ 14) → ReadsValue (cell_in Any (id == 13)) old v new → ReadsValue (after_id Any in_end id) old (a_cell v) new
  cell_read v (inl e) f = let test : (id == 13) ≡ true = rw e refl in read_at in_end id 13 e (kind_read a_cell (subst (λ t. ReadsValue (cell_in Any t) old v new) test f))
  cell_read v (inr e) f = let test : (id == 13) ≡ false = rw e refl in read_at in_end id 14 e (kind_read a_cell (subst (λ t. ReadsValue (cell_in Any t) old v new) test f))
