use Rattle.std.proofs.Common.{rules, arith}
use Rattle.oascanon_c.proofs.FillingLemmas.{written}
use Rattle.oascanon_c.proofs.reports.put_keys.Goals as goal

pub returns : goal.returns
returns c = written c.new-filler.result c.put_cell_keys.new.sink _ _ _ c.answer.result c.new-filler.ensures.none c.answer.ensures (λ name. search rules)
    (omega (arith, c.put_cell_keys.ensures.short)) c.put_cell_keys.result c.put_cell_keys.ensures.writes
