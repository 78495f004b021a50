use Rattle.oas_num.proofs.WritingLemmas.{IsLenSoFar}
use Rattle.oas_num.proofs.writing.unsigned_len.Given as goal

abbrev pub invariant-loop-left : goal.invariant-loop-left
invariant-loop-left l = IsLenSoFar l.value l.left l.count

abbrev pub decreases-loop-left : goal.decreases-loop-left
decreases-loop-left l = l.left
