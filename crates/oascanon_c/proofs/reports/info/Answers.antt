use Rattle.std.proofs.Common.{inl, inr, refl}
use Rattle.oascanon_c.specs.Reports.{LacksMemory}
use Rattle.oascanon_c.proofs.ReportLemmas.{facts_told}
use Rattle.oascanon_c.proofs.reports.info.Goals as goal

pub returns-in-Err : goal.returns-in-Err
returns-in-Err c = ((c.in-Some.limits, c.in-Some.ensures.limits, inl c.in-Err.ensures.refused), refl)

pub returns : goal.returns
returns c =
    let lacks : LacksMemory c.in-Some.limits c.args.bytes.now c.no_memory.result = record { taken = c.in-Ok.ensures.read.taken; why = c.no_memory.ensures.why; place = c.no_memory.ensures.place } in
    ((c.in-Some.limits, c.in-Some.ensures.limits, inr lacks), refl)

pub returns-in-Ok-facts : goal.returns-in-Ok-facts
returns-in-Ok-facts c =
    facts_told c.args.bounds.now c.in-Some.ensures.limits c.in-Ok.ensures.read c.in-Ok-facts.field-0-0 c.in-Ok-facts.ensures.facts _ _ c.put_text.result
    (rw (c.as_slice.ensures.value, c.in-Ok-facts.ensures.text) at c.put_text.ensures)
