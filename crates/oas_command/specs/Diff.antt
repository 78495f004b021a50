-- What the command `diff` reads, writes and returns.
use Rattle.std.specs.Prelude.{◌≡◌, ℕ, zero, suc, List, [], ◌∷◌, Result, Ok, Err}
use Rattle.oas_num.specs.declared.refusals.Refusal.{Refusal}
use Rattle.oas_num.specs.Script.{Script}
use Rattle.oas_elements.specs.declared.limits.Limits.{Limits}
use Rattle.oas_elements.specs.Contents.{Contents, meaning_of}
use Rattle.oas_canon.specs.Reading.{ReadsLayout}
use Rattle.oas_canon.specs.declared.profile.TheConstants.{PROFILE}
use Rattle.oas_canon.specs.declared.sameness.Which.{Which}
use Rattle.oas_canon.specs.declared.sameness.Which.TheVariants.{First, Second}
use Rattle.oas_markers.specs.Options.{Options}
use Rattle.oas_markers.specs.DifferenceOptions.{difference_by}

-- Both were read, the second after the first; or the first is refused, and nothing of the second is read; or the first was
-- read, and the second is refused.
abbrev pub ReadsBoth : {T : Type 0} → (T → Script) → Limits → Script → Script → T → T → Result (Contents × Contents) (Which × Refusal) → Type 0
ReadsBoth script limits old new before after (Ok found) = ReadsLayout limits PROFILE old (Ok found.0) new × ReadsLayout limits PROFILE (script before) (Ok found.1) (script after)
ReadsBoth script limits old new before after (Err (First, refusal)) = ReadsLayout limits PROFILE old (Err refusal) new × (after ≡ before)
ReadsBoth script limits old new before after (Err (Second, refusal)) =
    ((first : Contents) × ReadsLayout limits PROFILE old (Ok first) new) × ReadsLayout limits PROFILE (script before) (Err refusal) (script after)

-- the difference of two layouts, as the options say
abbrev pub diff_text : Options → Contents × Contents → List ℕ
diff_text options found = difference_by options PROFILE (meaning_of found.0) (meaning_of found.1)

-- 0 where there is no line, or else 3
abbrev pub text_status : List ℕ → ℕ
text_status [] = 0
text_status (b ∷ bs) = 3

-- the same for its length
abbrev pub length_status : ℕ → ℕ
length_status zero = 0
length_status (suc n) = 3

-- 0 where the difference is empty, 3 where it isn't, 1 after a refusal
abbrev pub diff_status : Options → Result (Contents × Contents) Refusal → ℕ
diff_status options (Ok found) = text_status (diff_text options found)
diff_status options (Err refusal) = 1
