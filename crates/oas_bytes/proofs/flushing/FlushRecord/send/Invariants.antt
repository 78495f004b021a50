use Rattle.std.proofs.Common.{◌-◌, ◌≤◌, ◌≡◌, false, length, take}
use Rattle.oas_bytes.specs.Devices.{TakesAll}
use Rattle.oas_bytes.proofs.flushing.FlushRecord.send.Given as goal

-- the writer took the bytes before this place
abbrev pub invariant-loop-sent : goal.invariant-loop-sent
invariant-loop-sent g l = record {
  within : l.sent ≤ length l.bytes;
  unflushed : l.self.flushed ≡ false;
  took : TakesAll (g.W.Device.calls l.fn.writer) (take l.sent l.bytes) (g.W.Device.calls l.writer);
}

abbrev pub decreases-loop-sent : goal.decreases-loop-sent
decreases-loop-sent g l = length l.bytes - l.sent
