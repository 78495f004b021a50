use Rattle.std.proofs.Common.{length, ◌-◌, ◌≤◌, take}
use Rattle.oas_bytes.specs.Outlets.{IsGiven, failures_of}
use Rattle.oas_bytes.specs.Writing.{Puts}
use Rattle.oas_bytes.proofs.outlets.Outlet.put_over.Given as goal

-- the bytes before this place were put
abbrev pub invariant-loop-put : goal.invariant-loop-put
invariant-loop-put g l = record {
  within : l.put ≤ length l.bytes;
  puts : Puts (IsGiven g.W.Device.calls) failures_of l.fn.self (take l.put l.bytes) l.self;
}

abbrev pub decreases-loop-put : goal.decreases-loop-put
decreases-loop-put g l = length l.bytes - l.put
