use Rattle.std.proofs.Common.{arith}
use Rattle.oas_prepare.proofs.Doubling.{turn_even, turn_odd, turn_past}
use Rattle.oas_prepare.proofs.units.doubled.Goals.{then-lower-eq0, else-lower-eq0+in-Some}
use Rattle.oas_prepare.proofs.units.doubled.Goals as goal

pub returns-in-None-clause-none : goal.returns-in-None-clause-none
returns-in-None-clause-none c = λ a b r none.
    turn_past a b _ _ _ _ c.loop-test.true (c.loop.invariant.reduces a b r) c.if-lower-eq0.false (omega (arith, c.in-None.ensures))

pub loop-preserved : goal.loop-preserved
loop-preserved c = elim c.if-lower-eq0.branch [
  | then-lower-eq0 w ↦ record {
    fits = rw w.upper-is c.loop.invariant.fits;
    reduces = λ a b r. rw (w.upper-is, w.lower-is) (turn_even a b _ _ _ (c.loop.invariant.reduces a b r) w.if-lower-eq0.true);
  }
  | else-lower-eq0+in-Some w ↦ record {
    fits = rw (w.upper-is, w.in-Some.ensures.1) w.in-Some.ensures.0;
    reduces = λ a b r. rw (w.upper-is, w.lower-is, w.in-Some.ensures.1) (turn_odd a b _ _ _ (c.loop.invariant.reduces a b r) w.if-lower-eq0.false);
  }
]
