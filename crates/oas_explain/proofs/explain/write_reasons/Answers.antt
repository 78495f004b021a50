use Rattle.std.proofs.Common.{rules}
use Rattle.oas_num.specs.Laws.WrittenLaws.{took_all}
use Rattle.oas_num.specs.OutletLaws.{writer_took}
use Rattle.oas_explain.proofs.explain.write_reasons.Goals as goal

pub returns-in-Ok-clause-written : goal.returns-in-Ok-clause-written
returns-in-Ok-clause-written g c = took_all g.W.Device.calls c.new-outlet.ensures c.in-Ok.ensures.writes c.in-Ok.ensures.all (λ name. search rules)

pub returns-in-Err-clause-cut_off : goal.returns-in-Err-clause-cut_off
returns-in-Err-clause-cut_off g c =
    let t = writer_took g.W.Device.calls _ _ _ _ _ c.new-outlet.ensures c.in-Err.ensures.writes (λ name. search rules) in
    record { front = t.front; back = t.back; joined = t.joined; took = t.took }
