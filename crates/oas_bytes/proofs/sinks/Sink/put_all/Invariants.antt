use Rattle.std.proofs.Common.{take}
use Rattle.oas_bytes.specs.Writing.{Puts}
use Rattle.oas_bytes.proofs.sinks.Sink.put_all.Given as goal

-- the bytes before this one were put
abbrev pub invariant-loop-byte : goal.invariant-loop-byte
invariant-loop-byte g l = Puts g.Self.Sink.given g.Self.Sink.failures l.fn.self (take l.byte-index l.bytes) l.self
