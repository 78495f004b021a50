use Rattle.std.proofs.Common.{rules, arith}
use Rattle.oascanon_c.proofs.FillingLemmas.{counted}
use Rattle.oascanon_c.proofs.buffers.put_form.Goals as goal

pub returns-clause-puts : goal.returns-clause-puts
returns-clause-puts c =
    let held = c.put_canonical.ensures.layout in
    counted c.new-filler.result c.put_canonical.new.sink _ _ _ c.answer.result c.new-filler.ensures.none c.answer.ensures (λ name. search rules)
    (omega (arith, c.put_canonical.ensures.short, held.light, held.limits.light)) c.put_canonical.result c.put_canonical.ensures.counts
