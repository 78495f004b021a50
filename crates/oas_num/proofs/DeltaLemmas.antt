-- Reading the numbers of a delta.
use Rattle.std.proofs.Common.{ℕ}
use Rattle.oas_num.specs.declared.refusals.Why.{Why}
use Rattle.oas_num.specs.Script.{Script}
use Rattle.oas_num.specs.Grammar.{IsThere}
use Rattle.oas_num.specs.Integers.{IsUnsigned}
use Rattle.oas_num.specs.Laws.IntegerLaws.{PrefixFree-IsUnsigned}
use Rattle.oas_num.specs.Deltas.{SpellsDelta2, SpellsDelta3, SpellsGDelta, GDeltaTook, delta2_of, delta3_of, gdelta_of, has_second, IsNumbers}
use Rattle.oas_num.specs.Laws.DeltaLaws.{Delta2-some, Delta3-some, GDelta-some}
use Rattle.oas_num.specs.Reading.{ReadsValue, FailsPiece, IntegerMay}
use Rattle.oas_num.proofs.MidwayLemmas.{Midway, begins, seen, image_fails}
use Rattle.oas_num.proofs.PieceLemmas.{first_fails, second_fails, there_fails_in}

pub starts_delta2 : (s : Script) → Midway SpellsDelta2 IsUnsigned delta2_of s s
starts_delta2 s = seen SpellsDelta2 delta2_of IsUnsigned (λ v. v) s s (begins SpellsDelta2 Delta2-some s)

pub starts_delta3 : (s : Script) → Midway SpellsDelta3 IsUnsigned delta3_of s s
starts_delta3 s = seen SpellsDelta3 delta3_of IsUnsigned (λ v. v) s s (begins SpellsDelta3 Delta3-some s)

pub starts_gdelta : (s : Script) → Midway SpellsGDelta IsNumbers gdelta_of s s
starts_gdelta s = seen SpellsGDelta gdelta_of IsNumbers (λ v. v) s s (begins SpellsGDelta GDelta-some s)

-- ---- where a g-delta goes wrong

pub first_number_fails : {old new : Script} {why : Why} → FailsPiece IsUnsigned IntegerMay old why new → FailsPiece SpellsGDelta GDeltaTook old why new
first_number_fails f = image_fails gdelta_of (first_fails f)

pub second_number_fails : {old mid new : Script} {first : ℕ} {why : Why} → ReadsValue IsUnsigned old first mid
    → FailsPiece (IsThere (has_second first) IsUnsigned) IntegerMay mid why new → FailsPiece SpellsGDelta GDeltaTook old why new
second_number_fails {first = first} read f = image_fails gdelta_of (second_fails PrefixFree-IsUnsigned read (there_fails_in IsUnsigned IntegerMay (has_second first) (λ _ h. h) f))
