use Rattle.std.proofs.Common.{◌+◌, take, drop, arith, rules}
use Rattle.oas_explain.proofs.FindLemmas.{parts}
use Rattle.oas_explain.proofs.explain.find.Goals as goal

pub returns-then-is_called-clause-found : goal.returns-then-is_called-clause-found
returns-then-is_called-clause-found c = record {
  before = take c.loop-reason.reason-index c.args.reasons.now;
  behind = drop (c.loop-reason.reason-index + 1) c.args.reasons.now;
  one_of = parts c.args.reasons.now c.loop-reason.reason-index _ c.loop-reason-test.true;
  called = search rules;
}

pub returns-clause-none : goal.returns-clause-none
returns-clause-none c = λ none k d lt. c.loop-reason.invariant k d (omega (arith, lt, c.loop-reason-test.false))
