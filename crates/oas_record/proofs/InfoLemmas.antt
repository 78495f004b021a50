-- Reading an info byte, and the fields after it.
use Rattle.std.proofs.Common.{ℕ, List, refl}
use Rattle.oas_num.specs.declared.refusals.Why.{Why}
use Rattle.oas_num.specs.declared.refusals.Why.TheVariants.{InfoByte}
use Rattle.oas_num.specs.Script.{Script}
use Rattle.oas_num.specs.Grammar.{IsPair, IsSuch, IsImage, IsByte}
use Rattle.oas_num.specs.Laws.GrammarLaws.{PrefixFree-such, PrefixFree-byte}
use Rattle.oas_num.specs.Pieces.{PairTook}
use Rattle.oas_num.specs.Reading.{ReadsValue, FailsPiece, ByteMay}
use Rattle.oas_num.proofs.GrammarLemmas.{such_read}
use Rattle.oas_record.specs.Info.{InfoTook}
use Rattle.oas_num.proofs.HalfwayLemmas.{Halfway, at_image, ◌▸◌, fails_at, such_took, such_refused}

module _ {U F : Type 0} {of : ℕ × F → U} {allowed : ℕ → Type 0} {fields : ℕ → F → List ℕ → Type 0} {took : ℕ → Why → List ℕ → Type 0} where
  -- the info byte fails
  pub info_took : {old new : Script} {why : Why} → FailsPiece IsByte ByteMay old why new
      → FailsPiece (IsImage of (IsPair (IsSuch allowed IsByte) fields)) (PairTook (IsSuch allowed IsByte) (InfoTook allowed) took) old why new
  info_took {old = old} f = fails_at {second = took} (at_image old) (such_took f)

  -- it is refused
  pub info_refused : {old new : Script} {info : ℕ} → ¬ allowed info → ReadsValue IsByte old info new
      → FailsPiece (IsImage of (IsPair (IsSuch allowed IsByte) fields)) (PairTook (IsSuch allowed IsByte) (InfoTook allowed) took) old InfoByte new
  info_refused {old = old} isnt read = fails_at {second = took} (at_image old) (such_refused PrefixFree-byte refl isnt (refl, isnt) read)

  -- it was read
  pub info_read : {old new : Script} {info : ℕ} → allowed info → ReadsValue IsByte old info new
      → Halfway (IsImage of (IsPair (IsSuch allowed IsByte) fields)) (fields info) (λ f. of (info, f)) (PairTook (IsSuch allowed IsByte) (InfoTook allowed) took) (took info) old new
  info_read {old = old} {new = new} {info = info} holds read = at_image old ▸ (PrefixFree-such allowed IsByte PrefixFree-byte, such_read allowed IsByte old new info holds read)
