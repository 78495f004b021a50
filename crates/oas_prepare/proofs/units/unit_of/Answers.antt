use Rattle.std.proofs.Common.{refl, arith}
use Rattle.oas_prepare.proofs.Doubling.{unit_up, unit_down, past_up, past_down, no_zero}
use Rattle.oas_prepare.proofs.Doubling.{reduces_turned}
use Rattle.oas_prepare.proofs.units.unit_of.Goals as goal

pub returns-in_err-num-clause-none : goal.returns-in_err-num-clause-none
returns-in_err-num-clause-none c = λ none unit is.
    past_up (omega arith) (c.in_err-num.ensures.none _ _ (rw (c.num.ensures.value, c.den.ensures.value) c.in_ok-unit.ensures.lowest) refl) is

pub returns-then-real-clause-some : goal.returns-then-real-clause-some
returns-then-real-clause-some c =
    let fits = c.in_ok-num.ensures.fits in
    unit_up c.args.real _ _ fits.0 fits.1 (omega arith) (c.in_ok-num.ensures.some _ _ (rw (c.num.ensures.value, c.den.ensures.value) c.in_ok-unit.ensures.lowest)) _ c.reduced-then-real.ensures.lowest

pub returns-in_err-den-clause-none : goal.returns-in_err-den-clause-none
returns-in_err-den-clause-none c = λ none unit is.
    past_down (omega arith) (c.in_err-den.ensures.none _ _ (rw (c.num-2.ensures.value, c.den-2.ensures.value) (reduces_turned _ _ _ c.in_ok-unit.ensures.lowest)) refl) is

pub returns-clause-some : goal.returns-clause-some
returns-clause-some c =
    let fits = c.in_ok-den.ensures.fits in
    unit_down c.args.real _ _ fits.1 fits.0 (omega arith) (c.in_ok-den.ensures.some _ _ (rw (c.num-2.ensures.value, c.den-2.ensures.value) (reduces_turned _ _ _ c.in_ok-unit.ensures.lowest))) _ c.reduced-2.ensures.lowest

pub returns-clause-none : goal.returns-clause-none
returns-clause-none c = λ none unit is.
    let s = c.in_ok-den.ensures.some c.args.real.den c.args.real.num (rw (c.num-2.ensures.value, c.den-2.ensures.value) (reduces_turned _ _ _ c.in_ok-unit.ensures.lowest)) in
    no_zero _ _ (reduces_turned _ _ _ s) (c.reduced-2.ensures.none.0 none)
