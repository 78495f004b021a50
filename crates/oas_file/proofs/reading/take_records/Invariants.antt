use Rattle.std.proofs.Common.{◌≡◌, ◌-◌, ◌^◌}
use Rattle.oas_file.specs.Gathering.{HasBegun, HasGathered}
use Rattle.oas_file.proofs.reading.take_records.Given as goal

abbrev pub invariant-loop-source : goal.invariant-loop-source
invariant-loop-source g l = record {
  place : l.at ≡ (g.S.Source.script l.source).given;
  gathered : (b : HasBegun g.C.CellStore.store l.head (g.S.Source.script l.fn.source) l.fn.reader) → HasGathered g.C.CellStore.store b.origin l.head l.fn.reader (g.S.Source.script l.source) l.reader;
}

abbrev pub decreases-loop-source : goal.decreases-loop-source
decreases-loop-source g l = 2 ^ 64 - l.at
