use Rattle.std.proofs.lemmas.Result.{err_from_is_err_and}
use Rattle.std.proofs.Common.{sym}
use Rattle.oas_peek.specs.Named.{named_record}
use Rattle.oas_prepare.proofs.Plain.{named_alone, named_role, named_tracked, element_stops, element_taken}
use Rattle.oas_prepare.proofs.taking.Preparation+Reader+C.take_named.Goals as goal

pub returns-in_err-take_named-clause-stopped : goal.returns-in_err-take_named-clause-stopped
returns-in_err-take_named-clause-stopped g c = λ ws s.
    let p = err_from_is_err_and c.from_residual-in_err-take_named.result c.from_residual-in_err-take_named.ensures.1 in
    let next = c.args.next.now in
    rw p.1 (element_stops s (named_record next) (named_role next) c.in_ok-find_cell.ensures.found (named_alone c.args.self.now.resolver next) c.args.at _ _ p.2 (c.in_err-take_named.ensures.refused _ s.reader))

pub returns-clause-taken : goal.returns-clause-taken
returns-clause-taken g c = λ ws s.
    let next = c.args.next.now in
    element_taken s (named_record next) (named_role next) c.in_ok-find_cell.ensures.found (named_alone c.args.self.now.resolver next) _ _ (sym (named_tracked c.args.self.now.resolver next)) (c.in_ok-take_named.ensures.taken _ s.reader)
