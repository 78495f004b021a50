use Rattle.oascanon_c.proofs.ReadingLemmas.{judged, own_judged}
use Rattle.oascanon_c.proofs.buffers.is_canonical.Goals as goal

pub returns-in-Ok-Canonical : goal.returns-in-Ok-Canonical
returns-in-Ok-Canonical c =
    let read = rw c.in-Ok-Canonical.field-0-is at c.in-Ok-Canonical.ensures.read in rw c.yes_or_no.ensures (own_judged c.args.bounds.now c.in-Some.ensures.limits read.0 read.2)

pub returns-in-Ok-Layout : goal.returns-in-Ok-Layout
returns-in-Ok-Layout c = rw c.yes_or_no-in-Ok-Layout.ensures
    (judged c.args.bounds.now c.in-Some.ensures.limits (rw c.in-Ok-Layout.field-0-is at c.in-Ok-Layout.ensures.read) c.has_canonical_bytes.result c.has_canonical_bytes.ensures.bytes)
