use Rattle.std.proofs.Common.{rules, arith}
use Rattle.std.proofs.lemmas.Grind.{common_steps}
use Rattle.oas_bytes.proofs.slices.SliceSourceSource.next.Goals as goal

pub invariant_of-self : goal.invariant_of-self
invariant_of-self c = search rules

pub returns : goal.returns
returns c = grind (arith, common_steps)

pub returns-then-self : goal.returns-then-self
returns-then-self c = grind (arith, common_steps)
