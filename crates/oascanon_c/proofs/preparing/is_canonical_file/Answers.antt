use Rattle.oascanon_c.proofs.PreparingLemmas.{canonical_file, IsWhole}
use Rattle.oascanon_c.proofs.preparing.is_canonical_file.Goals as goal

pub returns-in-Some-Canonical : goal.returns-in-Some-Canonical
returns-in-Some-Canonical c told =
    let whole : IsWhole c.read_canonical.result = rw (c.in-Some-Canonical.is, c.in-Some-Canonical.field-0-is) tt in
    canonical_file c.args.limits c.args.bytes.now _ c.read_canonical.result (rw (c.new-source.ensures, c.input.ensures) at c.read_canonical.ensures) whole
