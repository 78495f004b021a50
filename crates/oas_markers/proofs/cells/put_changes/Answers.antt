use Rattle.std.proofs.Common.{◌≡◌, [], ◌∷◌, map, length, refl, ap, ◌∙◌, arith}
use Rattle.std.proofs.lemmas.Result.{err_from_is_err_and}
use Rattle.oas_num.proofs.PuttingLemmas.{fails_at, all_put, ◌▸◌}
use Rattle.oas_markers.specs.Markers.{change_item, first_items}
use Rattle.oas_markers.specs.Held.{change_items}
use Rattle.oas_markers.proofs.Firsts.{none_first, first_then}
use Rattle.oas_difference.proofs.EntryLemmas.{left_is}
use Rattle.oas_markers.proofs.Steps.{first_item}
use Rattle.oas_markers.proofs.cells.put_changes.Goals as goal

pub loop-change-preserved : goal.loop-change-preserved
loop-change-preserved g c =
    let change = c.in-Some.change in
    let inv = c.loop-change.invariant in
    let step = first_item c.args.gone c.args.come c.args.name.now c.loop-change.before c.loop-change.after c.next_change.new.before c.next_change.new.after
    change.element change.before change.after c.in-Some.ensures.unlike c.in-Some.ensures.changed in
    let rest = change_items c.args.gone c.args.come c.args.name.now c.next_change.new.before c.next_change.new.after in
    let item = change_item c.args.gone c.args.come c.args.name.now (change.element, (change.before, change.after)) in
    let left = c.in_ok-put_first_change.ensures.left in
    record {
      put = left_is inv.put (first_then c.loop-change.left c.put_first_change.new.left (item ∷ []) rest _ step left) ▸ c.in_ok-put_first_change.ensures.writes;
      left = omega (arith, inv.left, ap length step, left);
      before = c.next_change.ensures.before;
      after = c.next_change.ensures.after;
    }

pub returns-in_err-put_first_change-clause-writes : goal.returns-in_err-put_first_change-clause-writes
returns-in_err-put_first_change-clause-writes g c =
    let p = err_from_is_err_and c.from_residual.result c.from_residual.ensures.1 in
    let change = c.in-Some.change in
    let inv = c.loop-change.invariant in
    let step = first_item c.args.gone c.args.come c.args.name.now c.loop-change.before c.loop-change.after c.next_change.new.before c.next_change.new.after
    change.element change.before change.after c.in-Some.ensures.unlike c.in-Some.ensures.changed in
    let rest = change_items c.args.gone c.args.come c.args.name.now c.next_change.new.before c.next_change.new.after in
    let item = change_item c.args.gone c.args.come c.args.name.now (change.element, (change.before, change.after)) in
    rw p.1 (fails_at _ (left_is inv.put (first_then c.loop-change.left _ (item ∷ []) rest _ step refl)) c.in_err-put_first_change.ensures.writes)

pub returns-clause-writes : goal.returns-clause-writes
returns-clause-writes g c =
    let s = c.loop-change in
    let none : change_items c.args.gone c.args.come c.args.name.now s.before s.after ≡ [] = ap (map (change_item c.args.gone c.args.come c.args.name.now)) c.in_default.ensures.changed in
    all_put (left_is s.invariant.put (ap (first_items s.left) none ∙ none_first s.left))

pub returns-clause-left : goal.returns-clause-left
returns-clause-left g c =
    let s = c.loop-change in
    let none : change_items c.args.gone c.args.come c.args.name.now s.before s.after ≡ [] = ap (map (change_item c.args.gone c.args.come c.args.name.now)) c.in_default.ensures.changed in
    omega (arith, s.invariant.left, ap length none)
