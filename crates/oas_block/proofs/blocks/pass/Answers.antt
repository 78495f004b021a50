use Rattle.std.proofs.lemmas.Result.{err_from_is_err_and}
use Rattle.oas_block.proofs.BlockLemmas.{passed_none, passed_on, passed_less, passed_all, passed_stops}
use Rattle.oas_block.proofs.blocks.pass.Goals as goal

pub loop-init : goal.loop-init
loop-init g c = passed_none _

pub returns-in_err-pass_byte : goal.returns-in_err-pass_byte
returns-in_err-pass_byte g c =
    let p = err_from_is_err_and c.from_residual.result c.from_residual.ensures.1 in
    rw (p.1, p.2) (passed_stops _ _ c.loop.invariant c.in_err-pass_byte.ensures)

pub loop-smaller : goal.loop-smaller
loop-smaller g c = passed_less _ _ _ c.if-branch.true c.in_ok-pass_byte.ensures

pub loop-preserved : goal.loop-preserved
loop-preserved g c = passed_on _ c.if-branch.true c.loop.invariant c.in_ok-pass_byte.ensures

pub returns : goal.returns
returns g c = passed_all _ c.if-branch.false c.loop.invariant c.in_ok-pass_byte.ensures
