use Rattle.std.proofs.lemmas.Result.{err_from_is_err_and}
use Rattle.oas_form.proofs.PuttingLemmas.{first, first_fails, last_fails, ends, unit_whole, unit_part, unit_parts}
use Rattle.oas_form.proofs.frames.put_unit.Goals as goal

pub returns-then-den-eq1-clause-counts : goal.returns-then-den-eq1-clause-counts
returns-then-den-eq1-clause-counts g c = rw (unit_whole c.args.num c.args.den c.if-den-eq1.true) c.put_part.ensures.counts

pub returns-then-num-eq1-clause-counts : goal.returns-then-num-eq1-clause-counts
returns-then-num-eq1-clause-counts g c = rw (unit_part c.args.num c.args.den c.if-den-eq1.false c.if-num-eq1.true) c.put_part-then-num-eq1.ensures.counts

pub returns-in_err-upper-clause-counts : goal.returns-in_err-upper-clause-counts
returns-in_err-upper-clause-counts g c =
    let p = err_from_is_err_and c.from_residual.result c.from_residual.ensures.1 in
    rw (p.1, unit_parts c.args.num c.args.den c.if-den-eq1.false c.if-num-eq1.false) (first_fails _ c.in_err-upper.ensures.counts)

pub returns-in_err-lower-clause-counts : goal.returns-in_err-lower-clause-counts
returns-in_err-lower-clause-counts g c =
    let p = err_from_is_err_and c.from_residual-in_err-lower.result c.from_residual-in_err-lower.ensures.1 in
    rw (p.1, unit_parts c.args.num c.args.den c.if-den-eq1.false c.if-num-eq1.false) (last_fails (first _ c.in_ok-upper.ensures.counts) c.in_err-lower.ensures.counts)

pub returns-clause-counts : goal.returns-clause-counts
returns-clause-counts g c =
    rw (unit_parts c.args.num c.args.den c.if-den-eq1.false c.if-num-eq1.false) (ends (first _ c.in_ok-upper.ensures.counts) c.in_ok-lower.ensures.counts)
