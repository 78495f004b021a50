-- Reading cells and text strings.
use Rattle.std.proofs.Common.{◌≡◌, Bool, true, false, IsTrue}
use Rattle.oas_num.specs.declared.refusals.Why.{Why}
use Rattle.oas_num.specs.Script.{Script}
use Rattle.oas_num.specs.Integers.{IsUnsigned}
use Rattle.oas_num.specs.Style.{Any}
use Rattle.oas_num.specs.Texts.{SpellsName, SpellsLabel}
use Rattle.oas_num.specs.Reading.{FailsPiece, IntegerMay, NameTook, LabelTook}
use Rattle.oas_num.proofs.MidwayLemmas.{image_fails}
use Rattle.oas_record.specs.References.{cell_number, cell_name, cell_in, CellTook, text_number, text_label, text_in, TextRefTook}

module _ {old new : Script} {why : Why} where
  pub cell_number_fails : (numbered : Bool) → IsTrue numbered → FailsPiece IsUnsigned IntegerMay old why new → FailsPiece (cell_in Any numbered) (CellTook numbered) old why new
  cell_number_fails true is f = image_fails cell_number f
  cell_number_fails false is f = absurd cc

  pub cell_name_fails : (numbered : Bool) → numbered ≡ false → FailsPiece SpellsName NameTook old why new → FailsPiece (cell_in Any numbered) (CellTook numbered) old why new
  cell_name_fails true isnt f = absurd cc
  cell_name_fails false isnt f = image_fails cell_name f

  pub text_number_fails : (numbered : Bool) → IsTrue numbered → FailsPiece IsUnsigned IntegerMay old why new → FailsPiece (text_in Any numbered) (TextRefTook numbered) old why new
  text_number_fails true is f = image_fails text_number f
  text_number_fails false is f = absurd cc

  pub text_label_fails : (numbered : Bool) → numbered ≡ false → FailsPiece SpellsLabel LabelTook old why new → FailsPiece (text_in Any numbered) (TextRefTook numbered) old why new
  text_label_fails true isnt f = absurd cc
  text_label_fails false isnt f = image_fails text_label f
