use Rattle.std.proofs.Common.{◌+◌, arith}
use Rattle.oas_shape.specs.Repetitions.{grid_of}
use Rattle.oas_shape.specs.Laws.RepetitionLaws.{offsets_len, offsets_are}
use Rattle.oas_shape.proofs.laws.listed_offsets.Goals as goal

pub returns : goal.returns
returns c = record {
  count = λ along has_grid dim grid offsets bytes p. let e = offsets_len along (grid_of grid) (dim + 1) offsets p.back p.second in omega (arith, e);
  first = λ along has_grid dim grid offsets bytes p. offsets_are along (grid_of grid) dim offsets p.back p.second;
}
