use Rattle.std.proofs.Common.{arith}
use Rattle.std.proofs.lemmas.Bool.{ne_eqb}
use Rattle.oas_shape.proofs.steps.read_deltas.Goals as goal

pub returns-in-0 : goal.returns-in-0
returns-in-0 g c = rw c.in-0.is c.read_alternating.ensures

pub returns-in-1 : goal.returns-in-1
returns-in-1 g c = rw c.in-1.is c.read_alternating-in-1.ensures

pub returns-in-2 : goal.returns-in-2
returns-in-2 g c = rw c.in-2.is c.read_steps.ensures

pub returns-in-3 : goal.returns-in-3
returns-in-3 g c = rw c.in-3.is c.read_steps-in-3.ensures

pub returns-in_default : goal.returns-in_default
returns-in_default g c =
    rw (ne_eqb c.args.kind 0 (omega arith), ne_eqb c.args.kind 1 (omega arith), ne_eqb c.args.kind 2 (omega arith), ne_eqb c.args.kind 3 (omega arith)) c.read_steps-in_default.ensures
