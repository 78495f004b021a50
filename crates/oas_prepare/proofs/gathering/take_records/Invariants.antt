use Rattle.std.proofs.Common.{◌≡◌, ◌-◌, ◌^◌}
use Rattle.oas_num.specs.Script.{Script}
use Rattle.oas_prepare.specs.Gathering.{HasGathered}
use Rattle.oas_prepare.proofs.gathering.take_records.Given as goal

abbrev pub invariant-records : goal.invariant-records
invariant-records g l = record {
  place : l.at ≡ (g.S.Source.script l.source).given;
  gathered : (origin : Script) → HasGathered g.C.CellStore.store origin l.head l.fn.preparation (g.S.Source.script l.fn.source) l.fn.preparation → HasGathered g.C.CellStore.store origin l.head l.fn.preparation (g.S.Source.script l.source) l.preparation;
}

abbrev pub decreases-records : goal.decreases-records
decreases-records g l = 2 ^ 64 - l.at
