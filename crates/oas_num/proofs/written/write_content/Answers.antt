use Rattle.std.proofs.Common.{rules}
use Rattle.oas_num.specs.Laws.WrittenLaws.{written, cut_off}
use Rattle.oas_num.proofs.written.write_content.Goals as goal

pub returns-in-Ok-clause-written : goal.returns-in-Ok-clause-written
returns-in-Ok-clause-written g c = written g.W.Device.calls c.new-outlet.ensures c.in-Ok.ensures.writes c.in-Ok.ensures.all (λ name. search rules) c.taken.ensures c.in-Ok.ensures.short

pub returns-in-Err-clause-refused : goal.returns-in-Err-clause-refused
returns-in-Err-clause-refused g c = cut_off g.W.Device.calls c.new-outlet.ensures c.in-Err.ensures.writes (λ name. search rules) c.taken-in-Err.ensures c.in-Err.ensures.short
