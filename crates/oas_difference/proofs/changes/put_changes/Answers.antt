use Rattle.std.proofs.lemmas.Result.{err_from_is_err_and}
use Rattle.oas_num.proofs.PuttingLemmas.{fails_at, ◌▸◌}
use Rattle.oas_diff_text.proofs.EntryLemmas.{left_is}
use Rattle.oas_difference.proofs.Steps.{next_changes}
use Rattle.oas_difference.proofs.changes.put_changes.Goals as goal

pub loop-change-preserved : goal.loop-change-preserved
loop-change-preserved g c =
    let found = c.in-Some.change in
    let text = next_changes c.args.notation.now c.args.name.now c.loop-change.before c.loop-change.after c.next_change.new.before c.next_change.new.after
    found.element found.before found.after c.in-Some.ensures.unlike c.in-Some.ensures.changed in
    record {
      put = left_is c.loop-change.invariant.put text ▸ c.in_ok-put_change.ensures;
      before = c.next_change.ensures.before;
      after = c.next_change.ensures.after;
    }

pub returns-in_err-put_change : goal.returns-in_err-put_change
returns-in_err-put_change g c =
    let p = err_from_is_err_and c.from_residual.result c.from_residual.ensures.1 in
    let found = c.in-Some.change in
    let text = next_changes c.args.notation.now c.args.name.now c.loop-change.before c.loop-change.after c.next_change.new.before c.next_change.new.after
    found.element found.before found.after c.in-Some.ensures.unlike c.in-Some.ensures.changed in
    rw p.1 (fails_at _ (left_is c.loop-change.invariant.put text) c.in_err-put_change.ensures)
