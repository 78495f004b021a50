use Rattle.std.proofs.Common.{◌≡◌, ◌++◌, ◌∙◌, ℕ, suc, List, length, ap, arith}
use Rattle.oas_elements.specs.declared.element.Element.{Element}
use Rattle.oas_difference.specs.Held.{held_changed}
use Rattle.oas_difference.proofs.Steps.{one_change}
use Rattle.oas_markers.proofs.counting.count_changes.Goals as goal

pub loop-change-preserved : goal.loop-change-preserved
loop-change-preserved c =
    let inv = c.loop-change.invariant in
    let change = c.in-Some.change in
    let rest = held_changed c.next_change.new.before c.next_change.new.after in
    let more : length (held_changed c.loop-change.before c.loop-change.after) ≡ suc (length rest) =
    ap length (c.in-Some.ensures.changed ∙ ap (λ (cs : List (Element × (ℕ × ℕ))). cs ++ rest) (one_change change.element change.before change.after c.in-Some.ensures.unlike)) in
    record {
      count = omega (arith, inv.count, more, c.saturating_add-count.ensures);
      fits = omega (arith, c.saturating_add-count.ensures);
      before = c.next_change.ensures.before;
      after = c.next_change.ensures.after;
    }
