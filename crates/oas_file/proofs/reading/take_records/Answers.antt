use Rattle.std.proofs.lemmas.Result.{err_from_is_err_and}
use Rattle.oas_file.proofs.Taking.{one_refused, one_more, gather_ends}
use Rattle.oas_file.proofs.reading.take_records.Goals as goal

pub returns-in_err-take_next : goal.returns-in_err-take_next
returns-in_err-take_next g c =
    let p = err_from_is_err_and c.from_residual.result c.from_residual.ensures.1 in
    rw (p.1, p.2) (λ b. one_refused (c.loop-source.invariant.gathered b) _ c.in_err-take_next.ensures)

pub loop-source-preserved : goal.loop-source-preserved
loop-source-preserved g c =
    let taken = rw c.if-branch.true at c.in_ok-take_next.ensures in
    record {
      place = c.at-at-in-loop-source.ensures;
      gathered = λ b. one_more (c.loop-source.invariant.gathered b) taken;
    }

pub returns : goal.returns
returns g c =
    let ended = rw c.if-branch.false at c.in_ok-take_next.ensures in
    λ b. rw ended.1 (gather_ends (c.loop-source.invariant.gathered b) _ c.loop-source.invariant.place ended.0)
