use Rattle.std.proofs.Common.{arith, refl}
use Rattle.sha2.specs.Sha256.{rounds}
use Rattle.oas_checksum.proofs.ScheduleLemmas.{block_start, none_kept}
use Rattle.oas_checksum.proofs.hash.block.begin.Goals as goal

pub returns : goal.returns
unfolding rounds
returns c = λ h.
    let b = c.args.block.now in
    let first = block_start b c.load-first.result 0 (omega arith) c.load-first.ensures in
    let second = block_start b c.load-second.result 4 (omega arith) c.load-second.ensures in
    let third = block_start b c.load-third.result 8 (omega arith) c.load-third.ensures in
    let last = block_start b c.load-last.result 12 (omega arith) c.load-last.ensures in
    let none = none_kept b c.args.sums.now (omega arith) in
    let sums = c.keep-4.ensures b (c.keep-3.ensures b (c.keep-2.ensures b (c.keep.ensures b none first) second) third) last in
    (sums, refl, first, second, third, last)
