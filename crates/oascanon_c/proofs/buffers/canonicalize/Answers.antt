use Rattle.std.proofs.Common.{refl}
use Rattle.oascanon_c.proofs.ReadingLemmas.{form_told, own_told}
use Rattle.oascanon_c.proofs.buffers.canonicalize.Goals as goal

pub returns-in-Ok-Canonical : goal.returns-in-Ok-Canonical
returns-in-Ok-Canonical c =
    let read = rw c.in-Ok-Canonical.field-0-is at c.in-Ok-Canonical.ensures.read in
    own_told c.args.bounds.now c.in-Some.ensures.limits read.0 read.2 _ _ c.put_file.result (rw (c.deref.ensures.value, read.1) at c.put_file.ensures)

pub returns-in-Ok-Layout : goal.returns-in-Ok-Layout
returns-in-Ok-Layout c =
    form_told c.args.bounds.now c.in-Some.ensures.limits (rw c.in-Ok-Layout.field-0-is at c.in-Ok-Layout.ensures.read) _ _ c.put_form.result c.put_form.ensures.puts

pub returns-in-Err : goal.returns-in-Err
returns-in-Err c = ((c.in-Some.limits, c.in-Some.ensures.limits, c.in-Err.ensures.refused), refl)
