use Rattle.std.proofs.Common.{◌≡◌, ◌++◌, [], flat_map, refl, ap, ◌∙◌}
use Rattle.std.proofs.lemmas.Result.{err_from_is_err_and}
use Rattle.oas_num.proofs.PuttingLemmas.{fails_at, all_put, ◌▸◌}
use Rattle.oas_markers.specs.Markers.{first_items}
use Rattle.oas_markers.specs.Held.{held_item, held_items}
use Rattle.oas_markers.proofs.Firsts.{none_first, first_then}
use Rattle.oas_difference.proofs.EntryLemmas.{left_is}
use Rattle.oas_markers.proofs.cells.put_items.Goals as goal

pub loop-pair-preserved : goal.loop-pair-preserved
loop-pair-preserved g c =
    let pair = c.in-Some.pair in
    let items = held_item c.args.gone c.args.come (pair.name.now, (pair.before, pair.after)) in
    let rest = held_items c.args.layers c.args.gone c.args.come c.next_cell.new.before c.next_cell.new.after in
    let step : held_items c.args.layers c.args.gone c.args.come c.loop-pair.before c.loop-pair.after ≡ items ++ rest = ap (flat_map (held_item c.args.gone c.args.come)) c.in-Some.ensures.pair in
    record {
      put = left_is c.loop-pair.invariant.put (first_then c.loop-pair.left c.put_cell.new.left items rest _ step c.in_ok-put_cell.ensures.left) ▸ c.in_ok-put_cell.ensures.writes;
      before = c.next_cell.ensures.before;
      after = c.next_cell.ensures.after;
    }

pub returns-in_err-put_cell : goal.returns-in_err-put_cell
returns-in_err-put_cell g c =
    let p = err_from_is_err_and c.from_residual.result c.from_residual.ensures.1 in
    let pair = c.in-Some.pair in
    let items = held_item c.args.gone c.args.come (pair.name.now, (pair.before, pair.after)) in
    let rest = held_items c.args.layers c.args.gone c.args.come c.next_cell.new.before c.next_cell.new.after in
    let step : held_items c.args.layers c.args.gone c.args.come c.loop-pair.before c.loop-pair.after ≡ items ++ rest = ap (flat_map (held_item c.args.gone c.args.come)) c.in-Some.ensures.pair in
    rw p.1 (fails_at _ (left_is c.loop-pair.invariant.put (first_then c.loop-pair.left _ items rest _ step refl)) c.in_err-put_cell.ensures.writes)

pub returns : goal.returns
returns g c =
    let s = c.loop-pair in
    let none : held_items c.args.layers c.args.gone c.args.come s.before s.after ≡ [] = ap (flat_map (held_item c.args.gone c.args.come)) c.in_default.ensures.pair in
    all_put (left_is s.invariant.put (ap (first_items s.left) none ∙ none_first s.left))
