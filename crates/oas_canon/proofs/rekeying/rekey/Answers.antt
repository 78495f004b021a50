use Rattle.std.proofs.Common.{rules}
use Rattle.std.proofs.lemmas.Result.{err_from_is_err_and}
use Rattle.oas_canon.specs.declared.rekeying.Rekeyed.{Rekeyed}
use Rattle.oas_canon.specs.declared.rekeying.Rekeyed.TheVariants.{Done, NotProfile1}
use Rattle.oas_canon.proofs.Whole.{taken, exactly_refused, exactly_taken, exactly_unwritten}
use Rattle.oas_canon.proofs.RekeyLemmas.{other, rekeyed, in_part, stays}
use Rattle.oas_canon.proofs.rekeying.rekey.Goals as goal

pub returns-in_err-layout-clause-exactly : goal.returns-in_err-layout-clause-exactly
returns-in_err-layout-clause-exactly g c =
    let p = err_from_is_err_and c.from_residual.result c.from_residual.ensures.1 in
    rw (p.1, p.2) (exactly_refused Rekeyed _ c.in_err-layout.ensures.refused.0)

pub returns-then-not-own-clause-rekeyed : goal.returns-then-not-own-clause-rekeyed
returns-then-not-own-clause-rekeyed g c = other c.in_ok-layout.ensures.read c.if-not-own.true

pub returns-then-not-own-clause-again : goal.returns-then-not-own-clause-again
returns-then-not-own-clause-again g c = stays _ _ _ _ _ NotProfile1 (other c.in_ok-layout.ensures.read c.if-not-own.true)

pub returns-then-not-own-clause-exactly : goal.returns-then-not-own-clause-exactly
returns-then-not-own-clause-exactly g c = exactly_taken NotProfile1 (taken c.in_ok-layout.ensures.read.read)

pub returns-in_err-count-clause-cut : goal.returns-in_err-count-clause-cut
returns-in_err-count-clause-cut g c =
    let p = err_from_is_err_and c.from_residual-in_err-count.result c.from_residual-in_err-count.ensures.1 in
    let r = c.in_ok-layout.ensures.read in
    rw (p.1, p.2) (λ _. in_part r c.if-not-own.false g.W.Device.calls _ _ _ c.in_err-count.ensures.refused)

pub returns-in_err-count-clause-exactly : goal.returns-in_err-count-clause-exactly
returns-in_err-count-clause-exactly g c =
    let p = err_from_is_err_and c.from_residual-in_err-count.result c.from_residual-in_err-count.ensures.1 in
    let cut = c.in_err-count.ensures.refused in
    rw (p.1, p.2) (exactly_unwritten Rekeyed c.args.limits (g.S.Source.script c.args.from.now) (g.S.Source.script c.read_judged.new.source) _ cut.reason)

pub returns-clause-rekeyed : goal.returns-clause-rekeyed
returns-clause-rekeyed g c =
    let r = c.in_ok-layout.ensures.read in
    rekeyed r c.if-not-own.false g.W.Device.calls _ _ _ c.in_ok-count.ensures.written

pub returns-clause-again : goal.returns-clause-again
returns-clause-again g c =
    let r = c.in_ok-layout.ensures.read in
    stays _ _ _ _ _ (Done _) (rekeyed r c.if-not-own.false g.W.Device.calls _ _ _ c.in_ok-count.ensures.written)

pub returns-clause-exactly : goal.returns-clause-exactly
returns-clause-exactly g c = exactly_taken (Done c.in_ok-count.count) (taken c.in_ok-layout.ensures.read.read)

pub returns-then-not-own-clause-unwritten : goal.returns-then-not-own-clause-unwritten
returns-then-not-own-clause-unwritten g c = search rules
