use Rattle.std.proofs.Common.{◌+◌, arith, refl}
use Rattle.sha2.specs.Sha256.{schedule}
use Rattle.oas_checksum.proofs.ScheduleLemmas.{one_more}
use Rattle.oas_checksum.proofs.hash.block.four_rounds.Goals as goal

pub returns : goal.returns
returns c = λ b h held start.
    let t = c.args.t in
    let w = schedule b 48 in
    let one = one_more h w _ c.round-v.result t (t + 1) refl start (c.round-v.ensures _ _ (held.1 t (omega arith))) in
    let two = one_more h w _ c.round-v-2.result (t + 1) (t + 2) (omega arith) one (c.round-v-2.ensures _ _ (held.1 (t + 1) (omega arith))) in
    let three = one_more h w _ c.round-v-3.result (t + 2) (t + 3) (omega arith) two (c.round-v-3.ensures _ _ (held.1 (t + 2) (omega arith))) in
    one_more h w _ c.round.result (t + 3) (t + 4) (omega arith) three (c.round.ensures _ _ (held.1 (t + 3) (omega arith)))
