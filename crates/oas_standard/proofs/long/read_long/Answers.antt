use Rattle.std.proofs.Common.{◌-◌, refl, arith}
use Rattle.std.proofs.lemmas.Result.{err_from_is_err_and}
use Rattle.oas_standard.proofs.LongLemmas.{byte_fails, out_of_range, found, goes_on}
use Rattle.oas_standard.proofs.long.read_long.Goals as goal

pub returns-in_err-byte : goal.returns-in_err-byte
returns-in_err-byte g c =
    let p = err_from_is_err_and c.from_residual.result c.from_residual.ensures.1 in
    rw (p.1, p.2) (byte_fails _ _ _ (c.at.result - c.at-start.result) c.loop-byte.invariant.so_far (let g = c.loop-byte.invariant.so_far.takes.given in omega (arith, g, c.loop-byte.invariant.start, c.at.ensures)) _ _ c.in_err-byte.ensures)

pub returns-in-None : goal.returns-in-None
returns-in-None g c = out_of_range _ _ _ (c.at.result - c.at-start.result) c.loop-byte.invariant.so_far (let g = c.loop-byte.invariant.so_far.takes.given in omega (arith, g, c.loop-byte.invariant.start, c.at.ensures)) _ _ c.in_ok-byte.ensures (c.in-None.ensures.none refl)

pub returns-then-byte-lt128 : goal.returns-then-byte-lt128
returns-then-byte-lt128 g c = found _ _ _ (c.at.result - c.at-start.result) c.loop-byte.invariant.so_far (let g = c.loop-byte.invariant.so_far.takes.given in omega (arith, g, c.loop-byte.invariant.start, c.at.ensures)) _ _ _ c.in_ok-byte.ensures c.if-byte-lt128.true c.in-Some.ensures.some.0 c.in-Some.ensures.some.1

pub loop-byte-preserved : goal.loop-byte-preserved
loop-byte-preserved g c = record {
  start = c.loop-byte.invariant.start;
  so_far = goes_on _ _ _ (c.at.result - c.at-start.result) c.loop-byte.invariant.so_far (let g = c.loop-byte.invariant.so_far.takes.given in omega (arith, g, c.loop-byte.invariant.start, c.at.ensures)) _ _ _ c.in_ok-byte.ensures c.if-byte-lt128.false c.in-Some.ensures.some.0;
}
