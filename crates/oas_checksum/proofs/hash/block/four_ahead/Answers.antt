use Rattle.std.proofs.Common.{◌≡◌, ◌+◌, ap, arith, refl, subst, ◌∙◌}
use Rattle.sha2.specs.Sha256.{schedule}
use Rattle.oas_checksum.specs.Schedule.{HasSums, words}
use Rattle.oas_checksum.proofs.ScheduleLemmas.{next_words, one_more}
use Rattle.oas_checksum.proofs.hash.block.four_ahead.Goals as goal

pub returns : goal.returns
returns c = λ b h ahead.
    let t = c.args.t in
    let w = schedule b 48 in
    let held = ahead.0 in
    let next : c.with_high-next.result ≡ words w (t + 16) =
    rw (c.with_high-next.ensures, c.with_low-low.ensures, c.known_part-known.ensures)
    (next_words b c.args.first c.args.second c.args.third c.args.last t c.requires ahead.2 ahead.3 ahead.4 ahead.5) in
    let place : t + 16 + 4 ≡ t + 4 + 16 = omega arith in
    let kept : HasSums b c.keep.new.sums (t + 4 + 16) = subst (HasSums b c.keep.new.sums) place (c.keep.ensures b held next) in
    let one = one_more h w _ c.round-v.result t (t + 1) refl ahead.1 (c.round-v.ensures _ _ (held.1 t (omega arith))) in
    let two = one_more h w _ c.round-v-2.result (t + 1) (t + 2) (omega arith) one (c.round-v-2.ensures _ _ (held.1 (t + 1) (omega arith))) in
    let three = one_more h w _ c.round-v-3.result (t + 2) (t + 3) (omega arith) two (c.round-v-3.ensures _ _ (held.1 (t + 2) (omega arith))) in (
      kept,
      one_more h w _ c.round.result (t + 3) (t + 4) (omega arith) three (c.round.ensures _ _ (kept.1 (t + 3) (omega arith))),
      ahead.3,
      ahead.4 ∙ ap (words w) (omega arith),
      ahead.5 ∙ ap (words w) (omega arith),
      next ∙ ap (words w) (omega arith),
    )
