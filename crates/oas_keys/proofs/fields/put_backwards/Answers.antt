use Rattle.std.proofs.Common.{refl, arith}
use Rattle.oas_elements.specs.Grid.{is_grid_point}
use Rattle.oas_keys.proofs.StepLemmas.{starts, all_reversed}
use Rattle.oas_keys.proofs.fields.put_backwards.Goals as goal

pub loop-point-init : goal.loop-point-init
loop-point-init c =
    (starts c.args.from _ c.args.out.now.items (all_reversed is_grid_point c.args.points.now c.requires.within) c.requires.from, (omega arith, refl))
