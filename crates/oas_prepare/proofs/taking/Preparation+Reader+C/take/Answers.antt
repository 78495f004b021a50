use Rattle.std.proofs.Common.{rules}
use Rattle.oas_prepare.proofs.Consumed.{resolved_taken}
use Rattle.oas_prepare.proofs.taking.Preparation+Reader+C.take.Goals as goal

pub returns-in_ok-take_resolved-in-Ok-clause-taken : goal.returns-in_ok-take_resolved-in-Ok-clause-taken
returns-in_ok-take_resolved-in-Ok-clause-taken g c = λ ws s.
    resolved_taken s c.args.next c.of-role.ensures (search rules) (rw c.with_turns.ensures at c.in-Ok.ensures.handed) _ _ _ _ (rw c.with_turns.ensures at c.in-Ok.ensures.kept) c.opens-self.ensures c.count.ensures
    (c.in_ok-take_resolved-in-Ok.ensures.taken _ s.reader)
