use Rattle.std.proofs.Common.{◌≡◌, ◌+◌, ◌∙◌, [], length, length-append, flat_map, ap, arith}
use Rattle.oas_num.specs.Ratio.{Ratio}
use Rattle.oas_markers.specs.Held.{held_item, held_items}
use Rattle.oas_markers.proofs.counting.count_items.Goals as goal

pub loop-pair-preserved : goal.loop-pair-preserved
loop-pair-preserved c =
    let inv = c.loop-pair.invariant in
    let pair = c.in-Some.pair in
    let more : (u v : Ratio) → length (held_items c.args.layers u v c.loop-pair.before c.loop-pair.after)
    ≡ length (held_item u v (pair.name.now, (pair.before, pair.after))) + length (held_items c.args.layers u v c.next_cell.new.before c.next_cell.new.after) =
    λ u v. ap (λ ps. length (flat_map (held_item u v) ps)) c.in-Some.ensures.pair
    ∙ length-append (held_item u v (pair.name.now, (pair.before, pair.after))) (held_items c.args.layers u v c.next_cell.new.before c.next_cell.new.after) in
    record {
      count = λ u v. omega (arith, inv.count u v, more u v, c.count_cell.ensures u v, c.saturating_add-count.ensures);
      fits = omega (arith, c.saturating_add-count.ensures);
      before = c.next_cell.ensures.before;
      after = c.next_cell.ensures.after;
    }

pub returns : goal.returns
returns c =
    let s = c.loop-pair in
    let none : (u v : Ratio) → held_items c.args.layers u v s.before s.after ≡ [] = λ u v. ap (flat_map (held_item u v)) c.in_default.ensures.pair in
    λ u v. omega (arith, s.invariant.count u v, s.invariant.fits, ap length (none u v))
