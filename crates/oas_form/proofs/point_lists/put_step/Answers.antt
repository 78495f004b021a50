use Rattle.std.proofs.Common.{◌≤◌, ◌^◌, subst, sym}
use Rattle.std.specs.Prelude.{ℤ, nat_abs}
use Rattle.oas_form.proofs.PointPutting.{across_is, up_is, across_short, up_short}
use Rattle.oas_form.proofs.point_lists.put_step.Goals as goal

pub put_delta-requires-clause-dx : goal.put_delta-requires-clause-dx
put_delta-requires-clause-dx g c =
    subst (λ (z : ℤ). nat_abs z ≤ 2 ^ 61) (sym (across_is c.args.from c.args.to c.requires.from c.requires.to)) (across_short c.args.from c.args.to c.requires.from c.requires.to)

pub put_delta-requires-clause-dy : goal.put_delta-requires-clause-dy
put_delta-requires-clause-dy g c =
    subst (λ (z : ℤ). nat_abs z ≤ 2 ^ 61) (sym (up_is c.args.from c.args.to c.requires.from c.requires.to)) (up_short c.args.from c.args.to c.requires.from c.requires.to)

pub returns-clause-counts : goal.returns-clause-counts
returns-clause-counts g c =
    rw (across_is c.args.from c.args.to c.requires.from c.requires.to, up_is c.args.from c.args.to c.requires.from c.requires.to) at c.put_delta.ensures.counts
