-- What is put of facts and of differences.
use Rattle.std.proofs.Common.{◌≡◌, ◌≢◌, ℕ, zero, suc, ◌<◌, List, [], ◌∷◌, ◌++◌, length, refl, ◌∙◌, ap, arith, None}
use Rattle.std.proofs.Math.Seq.{take-nil}
use Rattle.oas_elements.specs.declared.limits.Limits.{Limits}
use Rattle.oas_elements.specs.declared.profile.Profile.{Profile}
use Rattle.oas_elements.specs.Contents.{Contents, meaning_of}
use Rattle.oas_elements.specs.Limits.{AreLimits}
use Rattle.oas_difference.specs.Difference.{difference}
use Rattle.oas_difference.specs.FormatConstants.{PLAIN}
use Rattle.oas_info.specs.declared.info.Info.{Info}
use Rattle.oas_info.specs.Info.{IsInfo}
use Rattle.oas_info.specs.Json.{info_json}
use Rattle.oascanon_c.specs.declared.answers.Answer.{Answer}
use Rattle.oascanon_c.specs.declared.answers.Answer.TheVariants.{Done, No, TooSmall, NotLimits, Refused}
use Rattle.oascanon_c.specs.declared.bounds.Bounds.{Bounds}
use Rattle.oascanon_c.specs.Outcomes.{answer_by_lines}
use Rattle.oascanon_c.specs.Rooms.{Puts, filled_with}
use Rattle.oascanon_c.specs.Buffers.{IsReadFrom}
use Rattle.oascanon_c.specs.Reports.{Informs, Differs, Differences, line_of}

-- ---- facts

module _ (b : Bounds) {limits : Limits} (are : AreLimits limits b.elements b.weight b.input) {bytes : List ℕ} {l : Contents} (read : IsReadFrom limits bytes l) where
  pub facts_told : (info : Info) → IsInfo (meaning_of l) info → (old new : List ℕ) (a : Answer) → Puts (line_of (info_json info)) old a new → Informs b bytes old a new
  facts_told info is old new (Done n) p = (limits, are, (read.taken, (info, (l, read, is), p)))
  facts_told info is old new (TooSmall n) p = (limits, are, (read.taken, (info, (l, read, is), p)))
  facts_told info is old new (No n) p = absurd p
  facts_told info is old new NotLimits p = absurd p
  facts_told info is old new (Refused which refusal) p = absurd p

-- ---- differences

none_there : (xs : List ℕ) → 0 ≡ length xs → xs ≡ []
none_there [] e = refl
none_there (x ∷ xs) e = absurd (omega (arith, e))

some_there : (n : ℕ) (xs : List ℕ) → n < length xs → xs ≢ []
some_there n [] lt e = absurd (omega (arith, lt))
some_there n (x ∷ xs) lt e = absurd cc

-- the room is as it was where nothing is put
nothing_put : (old xs : List ℕ) → xs ≡ [] → filled_with old xs ≡ old
nothing_put old xs e = ap (filled_with old) e ∙ ap (λ (front : List ℕ). front ++ old) (take-nil (length old))

module _ {limits : Limits} {one other : List ℕ} {l k : Contents} (first : IsReadFrom limits one l) (second : IsReadFrom limits other k) where
  abbrev lines : List ℕ
  lines = difference None PLAIN l.profile (meaning_of l) (meaning_of k)

  differences : Differences limits one other lines
  differences = record { before = l; after = k; first = first; second = second; is = ap (λ (p : Profile). difference None PLAIN p (meaning_of l) (meaning_of k)) first.by }

  pub changes_told : (b : Bounds) → AreLimits limits b.elements b.weight b.input → (old new : List ℕ) (a : Answer) → Puts lines old a new → Differs b one other old (answer_by_lines a) new
  changes_told b are old new (Done zero) p =
      let none : lines ≡ [] = none_there lines p.0 in
      ((limits, are, (lines, differences, none)), refl, p.2 ∙ nothing_put old lines none)
  changes_told b are old new (Done (suc n)) p =
      let some : lines ≢ [] = some_there n lines (omega (arith, p.0)) in
      (limits, are, (lines, differences, (some, p)))
  changes_told b are old new (TooSmall n) p =
      let some : lines ≢ [] = some_there (length old) lines p.1 in
      (limits, are, (lines, differences, (some, p)))
  changes_told b are old new (No n) p = absurd p
  changes_told b are old new NotLimits p = absurd p
  changes_told b are old new (Refused which refusal) p = absurd p
