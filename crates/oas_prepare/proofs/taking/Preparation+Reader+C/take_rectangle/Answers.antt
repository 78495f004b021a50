use Rattle.std.proofs.Common.{refl}
use Rattle.oas_record.specs.declared.records.Record.TheVariants.{Rectangle}
use Rattle.oas_prepare.proofs.Plain.{unmixed, element_taken}
use Rattle.oas_prepare.proofs.taking.Preparation+Reader+C.take_rectangle.Goals as goal

pub returns-clause-taken : goal.returns-clause-taken
returns-clause-taken g c = λ ws s.
    let next = Rectangle c.args.next in
    element_taken s next refl c.in_ok-find_cell.ensures.found (unmixed c.args.self.now.resolver next (rw c.is_mixed.ensures at c.if-is_mixed.false)) _ _ c.track_rectangle.ensures (c.in_ok-take_rectangle.ensures.taken _ s.reader)
