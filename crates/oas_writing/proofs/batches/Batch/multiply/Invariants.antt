use Rattle.std.proofs.Common.{◌≡◌, ◌-◌, ◌<◌}
use Rattle.std.specs.List.{repeat}
use Rattle.oas_writing.proofs.batches.Batch.multiply.Given as goal

abbrev pub invariant-loop-copies : goal.invariant-loop-copies
invariant-loop-copies l = record { some : 0 < l.copies; repeated : l.self ≡ repeat l.copies l.fn.self }

abbrev pub decreases-loop-copies : goal.decreases-loop-copies
decreases-loop-copies l = l.times - l.copies
