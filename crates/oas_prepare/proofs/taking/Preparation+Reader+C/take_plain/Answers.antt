use Rattle.std.proofs.Common.{rules}
use Rattle.std.proofs.lemmas.Result.{err_from_is_err_and}
use Rattle.oas_prepare.proofs.Plain.{unmixed, plain_stops, plain_taken}
use Rattle.oas_prepare.proofs.taking.Preparation+Reader+C.take_plain.Goals as goal

pub returns-in_err-take-clause-stopped : goal.returns-in_err-take-clause-stopped
returns-in_err-take-clause-stopped g c = λ ws s.
    let p = err_from_is_err_and c.from_residual.result c.from_residual.ensures.1 in
    let next = c.args.next in
    rw p.1
    (plain_stops s next c.of_plain-role.ensures (search rules) (unmixed c.args.self.now.resolver next (rw c.is_mixed.ensures at c.if-is_mixed.false)) c.args.at _ _ p.2 (c.in_err-take.ensures.refused _ s.reader))

pub returns-clause-taken : goal.returns-clause-taken
returns-clause-taken g c = λ ws s.
    let next = c.args.next in
    plain_taken s next c.of_plain-role.ensures (search rules) (unmixed c.args.self.now.resolver next (rw c.is_mixed.ensures at c.if-is_mixed.false)) _ _ _ c.in-Ok.ensures c.opens-self.ensures (c.in_ok-take.ensures.taken _ s.reader)
