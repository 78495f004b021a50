use Rattle.std.proofs.Common.{refl}
use Rattle.oas_prepare.specs.Listing.{listing}
use Rattle.oascanon_c.proofs.ReadingLemmas.{text_told}
use Rattle.oascanon_c.proofs.reports.list.Goals as goal

pub returns-in-Ok : goal.returns-in-Ok
returns-in-Ok c = text_told c.args.bounds.now c.in-Some.ensures.limits c.in-Ok.ensures.read listing _ _ c.put_lines.result c.put_lines.ensures

pub returns-in-Err : goal.returns-in-Err
returns-in-Err c = ((c.in-Some.limits, c.in-Some.ensures.limits, c.in-Err.ensures.refused), refl)
