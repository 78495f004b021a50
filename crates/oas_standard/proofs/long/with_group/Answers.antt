use Rattle.std.proofs.Common.{arith, rules}
use Rattle.oas_standard.proofs.LongLemmas.{weight_fits, far, same_part}
use Rattle.oas_standard.proofs.long.with_group.Goals as goal

pub returns-then-place-gt9-clause-none : goal.returns-then-place-gt9-clause-none
returns-then-place-gt9-clause-none c = λ none. far c.args.value c.args.group c.args.place (omega (arith, c.if-group-eq0.false)) c.if-place-gt9.true

pub pow-weight-requires : goal.pow-weight-requires
pow-weight-requires c = weight_fits c.args.place (omega (arith, c.if-place-gt9.false))

pub returns-in-Some-clause-some : goal.returns-in-Some-clause-some
returns-in-Some-clause-some c = rw (same_part _ _ c.args.group c.args.place _ c.in-Some.ensures.1 c.from.ensures c.pow-weight.ensures) at c.plus.ensures.some

pub returns-in-Some-clause-none : goal.returns-in-Some-clause-none
returns-in-Some-clause-none c = rw (same_part _ _ c.args.group c.args.place _ c.in-Some.ensures.1 c.from.ensures c.pow-weight.ensures) at c.plus.ensures.none

pub returns-then-place-gt9-clause-some : goal.returns-then-place-gt9-clause-some
returns-then-place-gt9-clause-some c = search rules
