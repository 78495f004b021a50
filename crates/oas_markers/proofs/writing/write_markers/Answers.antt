use Rattle.std.proofs.Common.{rules}
use Rattle.oas_markers.proofs.WrittenLemmas.{marked, marked_up_to}
use Rattle.oas_markers.proofs.writing.write_markers.Goals as goal

pub returns-in-Ok-clause-written : goal.returns-in-Ok-clause-written
returns-in-Ok-clause-written g c =
    marked g.W.Device.calls c.new-outlet.ensures c.in-Ok.ensures.writes c.in-Ok.ensures.all (λ name. search rules) c.taken.ensures

pub returns-in-Err-clause-refused : goal.returns-in-Err-clause-refused
returns-in-Err-clause-refused g c =
    marked_up_to g.W.Device.calls c.new-outlet.ensures c.in-Err.ensures.writes (λ name. search rules) c.taken-in-Err.ensures
