use Rattle.std.proofs.Common.{arith}
use Rattle.std.proofs.lemmas.Result.{err_from_is_err_and}
use Rattle.oas_long_integers.proofs.SourceLemmas.{quiet_first, quiet_on, quiet_gives, quiet_ends, quiet_fails, one_more, kept_back, was_given, none_given}
use Rattle.oas_long_integers.proofs.sources.ShortenedSourceSource.next.Goals as goal

pub loop-byte-init : goal.loop-byte-init
loop-byte-init g c = quiet_first _

pub returns-in_err-take : goal.returns-in_err-take
returns-in_err-take g c =
    let p = err_from_is_err_and c.from_residual.result c.from_residual.ensures.1 in
    rw (p.1, p.2) (quiet_fails _ c.loop-byte.invariant c.in_err-take.ensures.steps)

pub returns-in-None : goal.returns-in-None
returns-in-None g c = quiet_ends c.loop-byte.invariant (none_given _ _ c.in-None.is c.in_ok-take.ensures.steps)

pub returns-in-Some-Some : goal.returns-in-Some-Some
returns-in-Some-Some g c = quiet_gives _ c.loop-byte.invariant (was_given _ _ c.in-Some-Some.is c.in-Some-Some.field-0-is c.in_ok-take.ensures.steps)

pub loop-byte-preserved : goal.loop-byte-preserved
loop-byte-preserved g c = quiet_on c.loop-byte.invariant (kept_back _ _ c.in-Some-None.is c.in-Some-None.field-0-is c.in_ok-take.ensures.steps)

pub loop-byte-smaller : goal.loop-byte-smaller
loop-byte-smaller g c = let n = one_more _ _ c.in-Some-None.is c.in-Some-None.field-0-is c.in_ok-take.ensures.counts in omega (arith, n.0, n.1)
