use Rattle.std.proofs.Common.{◌-◌, length}
use Rattle.std.specs.Prelude.{IfSome}
use Rattle.std.specs.Option.{option_map}
use Rattle.oas_peek.specs.Named.{HasValidName, named_record}
use Rattle.oas_judge.specs.Series.{SeriesSoFar}
use Rattle.oas_judge.proofs.gathering.gather_named.Given as goal

abbrev pub invariant-records : goal.invariant-records
invariant-records l = record {
  named : IfSome l.last HasValidName;
  so_far : SeriesSoFar l.ahead l.room.elements l.room.weight l.initial.judge (option_map named_record l.last) l.series l.judge;
}

abbrev pub decreases-records : goal.decreases-records
decreases-records l = length l.ahead - l.series.length
