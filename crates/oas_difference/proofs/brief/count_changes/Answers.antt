use Rattle.std.proofs.Common.{◌∙◌, ap, arith}
use Rattle.oas_difference.specs.Brief.{only_first, only_second}
use Rattle.oas_difference.specs.Held.{held_changed}
use Rattle.oas_difference.proofs.BriefHeld.{first_more, second_more}
use Rattle.oas_difference.proofs.brief.count_changes.Goals as goal

pub loop-change-preserved : goal.loop-change-preserved
loop-change-preserved c =
    let inv = c.loop-change.invariant in
    let change = c.in-Some.change in
    let rest = held_changed c.next_change.new.before c.next_change.new.after in
    let first = ap only_first c.in-Some.ensures.changed ∙ first_more change.element change.before change.after rest in
    let second = ap only_second c.in-Some.ensures.changed ∙ second_more change.element change.before change.after rest in
    record {
      first = omega (arith, inv.first, first, c.saturating_sub-gone.ensures, c.saturating_add.ensures);
      second = omega (arith, inv.second, second, c.saturating_sub-come.ensures, c.saturating_add-in-Some.ensures);
      first_fits = omega (arith, c.saturating_add.ensures);
      second_fits = omega (arith, c.saturating_add-in-Some.ensures);
      before = c.next_change.ensures.before;
      after = c.next_change.ensures.after;
    }
