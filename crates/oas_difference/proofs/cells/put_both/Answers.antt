use Rattle.std.proofs.Common.{◌∙◌, ap, true}
use Rattle.std.proofs.lemmas.Result.{err_from_is_err_and}
use Rattle.oas_num.proofs.PuttingLemmas.{begins, fails_at, ends, ◌▸◌}
use Rattle.oas_difference.specs.Difference.{below_name}
use Rattle.oas_difference.specs.Held.{held_changes}
use Rattle.oas_diff_text.proofs.EntryLemmas.{left_is}
use Rattle.oas_difference.proofs.Steps.{next_changes, below_both}
use Rattle.oas_difference.proofs.cells.put_both.Goals as goal

pub returns-in_err-put_place_entry : goal.returns-in_err-put_place_entry
returns-in_err-put_place_entry g c =
    let p = err_from_is_err_and c.from_residual.result c.from_residual.ensures.1 in
    let found = c.in-Some.first in
    let rest = held_changes c.args.notation.now c.args.name.now c.next_change.new.before c.next_change.new.after in
    let text = next_changes c.args.notation.now c.args.name.now c.args.before c.args.after c.next_change.new.before c.next_change.new.after found.element
    found.before found.after c.in-Some.ensures.unlike c.in-Some.ensures.changed in
    let whole = ap (below_name c.args.notation.now.syntax true true c.args.name.now) text ∙ below_both c.args.notation.now c.args.name.now
    (found.element, (found.before, found.after)) rest in
    rw p.1 (fails_at _ (left_is (begins _ _) whole) c.in_err-put_place_entry.ensures)

pub returns-in_err-put_change : goal.returns-in_err-put_change
returns-in_err-put_change g c =
    let p = err_from_is_err_and c.from_residual-in_err-put_change.result c.from_residual-in_err-put_change.ensures.1 in
    let found = c.in-Some.first in
    let rest = held_changes c.args.notation.now c.args.name.now c.next_change.new.before c.next_change.new.after in
    let text = next_changes c.args.notation.now c.args.name.now c.args.before c.args.after c.next_change.new.before c.next_change.new.after found.element
    found.before found.after c.in-Some.ensures.unlike c.in-Some.ensures.changed in
    let whole = ap (below_name c.args.notation.now.syntax true true c.args.name.now) text ∙ below_both c.args.notation.now c.args.name.now
    (found.element, (found.before, found.after)) rest in
    rw p.1 (fails_at _ (left_is (begins _ _) whole ▸ c.in_ok-put_place_entry.ensures) c.in_err-put_change.ensures)

pub returns : goal.returns
returns g c =
    let found = c.in-Some.first in
    let rest = held_changes c.args.notation.now c.args.name.now c.next_change.new.before c.next_change.new.after in
    let text = next_changes c.args.notation.now c.args.name.now c.args.before c.args.after c.next_change.new.before c.next_change.new.after found.element
    found.before found.after c.in-Some.ensures.unlike c.in-Some.ensures.changed in
    let whole = ap (below_name c.args.notation.now.syntax true true c.args.name.now) text ∙ below_both c.args.notation.now c.args.name.now
    (found.element, (found.before, found.after)) rest in
    ends _ _ (left_is (begins _ _) whole ▸ c.in_ok-put_place_entry.ensures ▸ c.in_ok-put_change.ensures) c.put_changes.ensures
