use Rattle.std.proofs.Common.{rules, arith}
use Rattle.oascanon_c.proofs.FillingLemmas.{written}
use Rattle.oascanon_c.proofs.reports.put_lines.Goals as goal

pub returns : goal.returns
returns c = written c.new-filler.result c.put_listing.new.sink _ _ _ c.answer.result c.new-filler.ensures.none c.answer.ensures (λ name. search rules)
    (omega (arith, c.put_listing.ensures.short)) c.put_listing.result c.put_listing.ensures.writes
