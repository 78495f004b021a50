use Rattle.std.proofs.Common.{arith}
use Rattle.std.proofs.lemmas.Int.{ints}
use Rattle.oas_num.specs.Deltas.{step}
use Rattle.oas_shape.proofs.VertexLemmas.{stepped}
use Rattle.oas_shape.proofs.vertices.next_displacement.Goals as goal

pub returns-clause-value : goal.returns-clause-value
returns-clause-value c = stepped (step c.args.before.x c.args.before.y) c.args.delta _ _ (omega (arith, ints)) (omega (arith, ints))
