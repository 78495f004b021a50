use Rattle.oascanon_c.proofs.ReportLemmas.{changes_told}
use Rattle.oascanon_c.proofs.reports.diff.Goals as goal

pub returns-in-Ok-read : goal.returns-in-Ok-read
returns-in-Ok-read c =
    rw c.by_lines.ensures (changes_told c.in-Ok.ensures.read c.in-Ok-read.ensures.read c.args.bounds.now c.in-Some.ensures.limits _ _ c.put_changes.result c.put_changes.ensures)
