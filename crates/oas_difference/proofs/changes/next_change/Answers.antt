use Rattle.std.proofs.Common.{◌∙◌, arith}
use Rattle.oas_difference.specs.Held.{held_changed}
use Rattle.oas_difference.proofs.Steps.{alike_changed}
use Rattle.oas_difference.proofs.changes.next_change.Goals as goal

pub returns-then-change-clause-changed : goal.returns-then-change-clause-changed
returns-then-change-clause-changed c = c.loop-change.invariant.listed ∙ c.in-Some.ensures.changed

pub returns-then-change-clause-fewer : goal.returns-then-change-clause-fewer
returns-then-change-clause-fewer c = omega (arith, c.in-Some.ensures.fewer, c.loop-change.invariant.fewer)

pub loop-change-preserved : goal.loop-change-preserved
loop-change-preserved c =
    let change = c.in-Some.change in
    let inv = c.loop-change.invariant in
    record {
      listed = inv.listed ∙ c.in-Some.ensures.changed
          ∙ alike_changed change.element change.before change.after (held_changed c.take_least.new.before c.take_least.new.after) c.if-change.false;
      before = c.take_least.ensures.before;
      after = c.take_least.ensures.after;
      fewer = omega (arith, c.in-Some.ensures.fewer, inv.fewer);
    }
