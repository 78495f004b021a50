use Rattle.std.proofs.Common.{ℕ, ◌+◌, ◌*◌, ap, arith}
use Rattle.std.proofs.lemmas.Result.{err_from_is_err_and}
use Rattle.oas_num.proofs.IntegerLemmas.{digit_fits, weight_fits, last_fits, small_digit, goes_on, found, byte_fails, out_of_range, at_ninth}
use Rattle.oas_num.proofs.integers.read_unsigned.Goals as goal

pub returns-in_err-byte : goal.returns-in_err-byte
returns-in_err-byte g c =
    let p = err_from_is_err_and c.from_residual.result c.from_residual.ensures.1 in
    rw (p.1, p.2) (byte_fails _ _ _ _ _ c.loop.invariant (omega arith) _ _ c.in_err-byte.ensures)

pub overflow_mul-value : goal.overflow_mul-value
overflow_mul-value g c =
    let d = digit_fits _ _ _ _ _ c.loop.invariant c.in_ok-byte.byte c.loop-test.true in
    rw c.from.ensures (omega (arith, d))

pub overflow_add-value : goal.overflow_add-value
overflow_add-value g c =
    let d = digit_fits _ _ _ _ _ c.loop.invariant c.in_ok-byte.byte c.loop-test.true in
    rw c.from.ensures (omega (arith, d))

pub returns-then-byte-lt128 : goal.returns-then-byte-lt128
returns-then-byte-lt128 g c =
    let d = digit_fits _ _ _ _ _ c.loop.invariant c.in_ok-byte.byte c.loop-test.true in
    found _ _ _ _ _ c.loop.invariant _ _ _ (omega arith) c.in_ok-byte.ensures c.if-byte-lt128.true
    (ap (λ (x : ℕ). c.loop.value + x * c.loop.weight) c.from.ensures) (rw c.from.ensures (omega (arith, d)))

pub overflow_mul-weight : goal.overflow_mul-weight
overflow_mul-weight g c = omega (arith, weight_fits _ _ _ _ _ c.loop.invariant c.loop-test.true)

pub loop-preserved : goal.loop-preserved
loop-preserved g c = rw c.from.ensures (goes_on _ _ _ _ _ c.loop.invariant _ _ c.in_ok-byte.ensures c.if-byte-lt128.false)

pub returns-in_err-last : goal.returns-in_err-last
returns-in_err-last g c =
    let p = err_from_is_err_and c.from_residual-in_err-last.result c.from_residual-in_err-last.ensures.1 in
    rw (p.1, p.2) (byte_fails _ _ _ _ _ c.loop.invariant (omega arith) _ _ c.in_err-last.ensures)

pub returns-then-last-gt1 : goal.returns-then-last-gt1
returns-then-last-gt1 g c =
    let n = at_ninth _ _ _ _ _ c.loop.invariant c.loop-test.false (omega arith) in
    out_of_range _ _ _ _ _ _ _ c.loop.invariant n.0 c.in_ok-last.ensures c.if-last-gt1.true

pub overflow_add-result : goal.overflow_add-result
overflow_add-result g c =
    let n = at_ninth _ _ _ _ _ c.loop.invariant c.loop-test.false (omega arith) in
    rw c.from-2.ensures (omega (arith, last_fits _ _ _ n.1 n.2 c.if-last-gt1.false))

pub returns : goal.returns
returns g c =
    let n = at_ninth _ _ _ _ _ c.loop.invariant c.loop-test.false (omega arith) in
    rw c.from-2.ensures (found _ _ _ _ _ c.loop.invariant _ _ _ (omega arith) c.in_ok-last.ensures (omega (arith, c.if-last-gt1.false))
    (small_digit _ _ _ c.if-last-gt1.false) (last_fits _ _ _ n.1 n.2 c.if-last-gt1.false))
