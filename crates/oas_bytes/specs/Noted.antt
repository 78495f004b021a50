-- What the calls of a writer did, by what was noted of them.
use Rattle.std.specs.Prelude.{Some, length}
use Rattle.oas_bytes.specs.Devices.{Calls}
use Rattle.oas_bytes.specs.declared.noted.NotedWriter.{NotedWriter}

-- the bytes that they took, and how many failed
abbrev pub calls_noted : {W : Type 0} → NotedWriter W → Calls
calls_noted w = record { contents = Some w.taken.bytes; failures = length w.failed.bytes }
