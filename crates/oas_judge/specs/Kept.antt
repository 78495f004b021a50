-- How reading a file refuses where its bytes are kept, part by part.
use Rattle.std.specs.Prelude.{◌⊎◌}
use Rattle.oas_num.specs.declared.refusals.Refusal.{Refusal}
use Rattle.oas_num.specs.Script.{Script}
use Rattle.oas_elements.specs.declared.limits.Limits.{Limits}
use Rattle.oas_writing.specs.Deciding.{HasNoMemory, IsReasoned}
use Rattle.oas_writing.specs.Reading.{IsRefused, IsPlaced}

-- as reading refuses; but memory may run out for any byte, also where no bytes decide it
abbrev pub RefusesKept : Limits → Script → Refusal → Script → Type 0
RefusesKept limits old refusal new = IsRefused limits old refusal.why new × IsPlaced limits old refusal new × (HasNoMemory limits old refusal new ⊎ IsReasoned limits old refusal new)
