use Rattle.std.proofs.Common.{arith}
use Rattle.std.proofs.lemmas.Result.{err_from_is_err_and}
use Rattle.oas_record.proofs.MagicLemmas.{matched_none, matched_more, magic_fails, magic_wrong, magic_done}
use Rattle.oas_record.proofs.heads.read_magic.Goals as goal

pub loop-i-init : goal.loop-i-init
loop-i-init g c = matched_none _

pub returns-in_err-byte : goal.returns-in_err-byte
returns-in_err-byte g c =
    let p = err_from_is_err_and c.from_residual.result c.from_residual.ensures.1 in
    rw (p.1, p.2) (magic_fails _ _ _ _ c.loop-i-test.true c.loop-i.invariant _ c.in_err-byte.ensures)

pub loop-i-preserved : goal.loop-i-preserved
loop-i-preserved g c = matched_more _ _ _ _ c.loop-i-test.true c.loop-i.invariant _ c.if-byte-i.false c.in_ok-byte.ensures

pub returns-then-byte-i : goal.returns-then-byte-i
returns-then-byte-i g c = magic_wrong _ _ _ _ c.loop-i-test.true c.loop-i.invariant _ c.if-byte-i.true c.in_ok-byte.ensures

pub returns : goal.returns
returns g c = magic_done _ _ _ _ (omega arith) c.loop-i.invariant
