use Rattle.std.proofs.Common.{◌≡◌, ◌+◌, ◌*◌, ap, arith, ◌∙◌}
use Rattle.sha2.specs.Sha256.{add_state, compress}
use Rattle.oas_checksum.specs.Schedule.{IsAhead}
use Rattle.oas_checksum.proofs.ScheduleLemmas.{ahead_at, fewer}
use Rattle.oas_checksum.proofs.hash.block.compress.Goals as goal

pub turns-init : goal.turns-init
turns-init c = c.begin.ensures c.args.state.now

pub turns-preserved : goal.turns-preserved
turns-preserved c =
    let b = c.args.block.now in
    let h = c.args.state.now in
    let t = 16 * c.turns.turn in
    let one = c.four_ahead.ensures b h c.turns.invariant in
    let two = ahead_at b h _ _ _ _ _ _ (t + 4 + 4) (t + 8) (omega arith) (c.four_ahead-in-turns.ensures b h one) in
    let three = ahead_at b h _ _ _ _ _ _ (t + 8 + 4) (t + 12) (omega arith) (c.four_ahead-in-turns-2.ensures b h two) in
    ahead_at b h _ _ _ _ _ _ (t + 12 + 4) (16 * (c.turns.turn + 1)) (omega arith) (c.four_ahead-in-turns-3.ensures b h three)

pub returns : goal.returns
unfolding compress
returns c =
    let b = c.args.block.now in
    let h = c.args.state.now in
    let done : c.turns.turn ≡ 3 = omega (arith, c.turns.auto.turn-end) in
    let ahead : IsAhead b h c.turns.sums c.turns.v c.turns.first c.turns.second c.turns.third c.turns.last 48 = rw done at c.turns.invariant in
    let sums = ahead.0 in
    let one = c.four_rounds-v.ensures b h (fewer b c.turns.sums 64 52 (omega arith) sums) ahead.1 in
    let two = c.four_rounds-v-2.ensures b h (fewer b c.turns.sums 64 56 (omega arith) sums) one in
    let three = c.four_rounds-v-3.ensures b h (fewer b c.turns.sums 64 60 (omega arith) sums) two in
    let four = c.four_rounds-v-4.ensures b h sums three in
    c.added-after.ensures ∙ ap (add_state h) four
