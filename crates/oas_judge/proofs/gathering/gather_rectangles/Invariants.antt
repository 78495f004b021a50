use Rattle.std.proofs.Common.{◌-◌, length}
use Rattle.std.specs.Option.{option_map}
use Rattle.oas_record.specs.declared.records.Record.TheVariants.{Rectangle as OneRectangle}
use Rattle.oas_judge.specs.Series.{SeriesSoFar}
use Rattle.oas_judge.proofs.gathering.gather_rectangles.Given as goal

abbrev pub invariant-records : goal.invariant-records
invariant-records l = SeriesSoFar l.ahead l.room.elements l.room.weight l.initial.judge (option_map (λ r. OneRectangle r) l.last) l.series l.judge

abbrev pub decreases-records : goal.decreases-records
decreases-records l = length l.ahead - l.series.length
