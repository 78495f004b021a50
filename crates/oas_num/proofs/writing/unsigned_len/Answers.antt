use Rattle.std.proofs.Common.{arith}
use Rattle.oas_num.proofs.WritingLemmas.{len_starts, len_goes_on, len_ends}
use Rattle.oas_num.proofs.writing.unsigned_len.Goals as goal

pub loop-left-init : goal.loop-left-init
loop-left-init c = len_starts _ c.ranges.value.fits

pub overflow_add-count : goal.overflow_add-count
overflow_add-count c = omega arith

pub loop-left-preserved : goal.loop-left-preserved
loop-left-preserved c = len_goes_on _ _ _ c.loop-left.invariant c.loop-left-test.true

pub returns : goal.returns
returns c = len_ends _ _ _ c.loop-left.invariant c.loop-left-test.false
