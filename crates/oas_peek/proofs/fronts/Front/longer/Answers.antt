use Rattle.std.proofs.Common.{arith}
use Rattle.oas_peek.proofs.FrontLemmas.{begins, digit_fits, weight_fits, goes_on, ends, not_zero}
use Rattle.oas_peek.proofs.fronts.Front.longer.Goals as goal

pub loop-init : goal.loop-init
loop-init c = rw c.from-value.ensures (begins c.args.first c.args.self.now c.requires c.ranges.first.fits)

pub overflow_mul-value : goal.overflow_mul-value
overflow_mul-value c =
    let d = digit_fits _ _ _ _ _ _ c.loop.invariant c.in_ok-byte.byte c.loop-test.true in
    rw c.from.ensures (omega (arith, d))

pub overflow_add-value : goal.overflow_add-value
overflow_add-value c =
    let d = digit_fits _ _ _ _ _ _ c.loop.invariant c.in_ok-byte.byte c.loop-test.true in
    rw c.from.ensures (omega (arith, d))

pub returns-then-byte-lt128 : goal.returns-then-byte-lt128
returns-then-byte-lt128 c = rw (c.from.ensures, c.note.ensures) (ends _ _ _ _ _ _ c.loop.invariant _ _ _ c.loop-test.true c.in_ok-byte.ensures c.if-byte-lt128.true (not_zero _))

pub overflow_mul-weight : goal.overflow_mul-weight
overflow_mul-weight c = omega (arith, weight_fits _ _ _ _ _ _ c.loop.invariant c.loop-test.true)

pub loop-preserved : goal.loop-preserved
loop-preserved c = rw c.from.ensures (goes_on _ _ _ _ _ _ c.loop.invariant _ _ c.in_ok-byte.ensures c.if-byte-lt128.false)
