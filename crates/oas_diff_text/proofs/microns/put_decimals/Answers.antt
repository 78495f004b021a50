use Rattle.std.proofs.Common.{◌≡◌, ◌*◌, ◌<◌, suc, refl, arith}
use Rattle.std.specs.Prelude.{◌-◌}
use Rattle.std.proofs.lemmas.Result.{err_from_is_err_and}
use Rattle.oas_num.proofs.PuttingLemmas.{fails_at, ◌▸◌}
use Rattle.oas_diff_text.proofs.MicronLemmas.{digit_of, below_den}
use Rattle.oas_diff_text.proofs.EntryLemmas.{left_is}
use Rattle.oas_diff_text.proofs.microns.put_decimals.Goals as goal

pub returns-in_err-put : goal.returns-in_err-put
returns-in_err-put g c =
    let p = err_from_is_err_and c.from_residual.result c.from_residual.ensures.1 in
    let s = c.loop-left in
    let less : s.left ≡ suc (s.left - 1) = omega (arith, c.loop-left-test.true) in
    let some : 0 < s.rest = omega (arith, c.if-rest-eq0.false) in
    rw p.1 (fails_at _ (left_is s.invariant.put
    (digit_of c.args.den s.left (s.left - 1) s.rest c.from-tens.result c.from.result c.args.den less some c.from-tens.ensures c.from.ensures refl)) c.in_err-put.ensures)

pub loop-left-preserved : goal.loop-left-preserved
loop-left-preserved g c =
    let s = c.loop-left in
    let less : s.left ≡ suc (s.left - 1) = omega (arith, c.loop-left-test.true) in
    let some : 0 < s.rest = omega (arith, c.if-rest-eq0.false) in
    let den : 0 < c.args.den = omega (arith, s.invariant.below) in
    record {
      put = left_is s.invariant.put (digit_of c.args.den s.left (s.left - 1) s.rest c.from-tens.result c.from.result c.from-in-loop-left.result less some
          c.from-tens.ensures c.from.ensures c.from-in-loop-left.ensures) ▸ c.in_ok-put.ensures;
      below = below_den (10 * c.from-tens.result) c.from-in-loop-left.result c.args.den c.from-in-loop-left.ensures den;
    }
