-- What the calls of a recorded writer did.
use Rattle.std.specs.Prelude.{ℕ, List, Option, length}
use Rattle.oas_num.specs.Devices.{Calls}
use Rattle.oas_explain.specs.declared.recording.Recorded.{Recorded}

-- the bytes that the writer holds, where they are known, and how many of its calls failed
abbrev pub calls_recorded : {W : Type 0} → (W → Option (List ℕ)) → Recorded W → Calls
calls_recorded contents r = record { contents = contents r.inner; failures = length r.failed.bytes }
