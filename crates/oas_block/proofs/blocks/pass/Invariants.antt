use Rattle.std.proofs.Common.{◌-◌}
use Rattle.oas_block.specs.Inflating.{Passed}
use Rattle.oas_block.proofs.blocks.pass.Given as goal

abbrev pub invariant-loop : goal.invariant-loop
invariant-loop g l = Passed (g.S.Source.script l.fn.source) (g.S.Source.script l.source)

abbrev pub decreases-loop : goal.decreases-loop
decreases-loop g l = (g.S.Source.script l.source).limit - (g.S.Source.script l.source).given
