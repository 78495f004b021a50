use Rattle.std.proofs.Common.{◌-◌, length}
use Rattle.std.specs.Option.{option_map}
use Rattle.oas_judge.specs.Series.{figure_record, SeriesSoFar}
use Rattle.oas_judge.proofs.gathering.gather_figures.Given as goal

abbrev pub invariant-records : goal.invariant-records
invariant-records l = SeriesSoFar l.ahead l.room.elements l.room.weight l.initial.judge (option_map figure_record l.last) l.series l.judge

abbrev pub decreases-records : goal.decreases-records
decreases-records l = length l.ahead - l.series.length
