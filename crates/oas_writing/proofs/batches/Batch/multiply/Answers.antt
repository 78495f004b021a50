use Rattle.std.proofs.Common.{arith, ◌∙◌}
use Rattle.oas_writing.proofs.RepeatLemmas.{held_is, repeat_few, repeat_double}
use Rattle.oas_writing.proofs.batches.Batch.multiply.Goals as goal

pub overflow_mul-copies : goal.overflow_mul-copies
overflow_mul-copies c =
    let held = held_is c.self.inside.held 4096 c.self.inside.bytes c.loop-copies.self c.self.view_is (omega arith) c.self.told in
    omega (arith, repeat_few c.loop-copies.copies 4096 c.args.self.now c.loop-copies.self c.loop-copies.invariant.repeated c.requires (omega arith))

pub loop-copies-preserved : goal.loop-copies-preserved
loop-copies-preserved c = record {
  some = omega arith;
  repeated = c.double.ensures ∙ repeat_double c.loop-copies.copies c.args.self.now c.loop-copies.self c.loop-copies.invariant.repeated;
}
