-- What the command `diff` writes in addition to its lines where markers are requested.
use Rattle.std.specs.Prelude.{◌≡◌, ℕ, List, Option, Result, Ok, Err}
use Rattle.oas_num.specs.Devices.{Calls, TakesAll}
use Rattle.oas_num.specs.declared.refusals.Refusal.{Refusal}
use Rattle.oas_elements.specs.Contents.{Contents, meaning_of}
use Rattle.oas_canon.specs.declared.profile.TheConstants.{PROFILE}
use Rattle.oas_canon.specs.declared.sameness.Which.{Which}
use Rattle.oas_markers.specs.Choice.{chosen}
use Rattle.oas_markers.specs.Options.{Options}
use Rattle.oas_markers.specs.Markers.{markers}
use Rattle.oas_markers.specs.Written.{IsMarkedUpTo}
use Rattle.oas_command.specs.Runs.{blamed}

-- the markers of what the options compare of two layouts, at most this many
abbrev pub marks : Options → ℕ → Contents × Contents → List ℕ
marks options most found = markers most options.choice.layers PROFILE (chosen options.choice (meaning_of found.0)) (chosen options.choice (meaning_of found.1))

-- After the lines the markers were written, and that is the last result; or the writer failed and took a prefix of them, as
-- long as the place of the last result's refusal says, capped to 64 bits. Without the lines no marker was written.
abbrev pub Marks : {W : Type 0} → Options → ℕ → (W → Calls) → W → Result (Contents × Contents) Refusal → Result (Contents × Contents) Refusal → W → Type 0
Marks options most calls before (Ok found) (Ok last) after = (last ≡ found) × TakesAll (calls before) (marks options most found) (calls after)
Marks options most calls before (Ok found) (Err refusal) after = IsMarkedUpTo calls before (marks options most found) after refusal
Marks options most calls before (Err refusal) last after = (last ≡ Err refusal) × (after ≡ before)

-- the name of what failed: the markers' own after the lines, and before that as without markers
abbrev pub blamed_marking : List ℕ → List ℕ → List ℕ → Result (Contents × Contents) (Which × Refusal) → Result (Contents × Contents) Refusal → List ℕ
blamed_marking a b own found (Ok value) = own
blamed_marking a b own found (Err refusal) = blamed a b found
