use Rattle.std.proofs.Common.{refl}
use Rattle.oas_prepare.specs.CellKeys.{cell_key_lines}
use Rattle.oascanon_c.proofs.ReadingLemmas.{text_told}
use Rattle.oascanon_c.proofs.reports.keys.Goals as goal

pub returns-in-Ok : goal.returns-in-Ok
returns-in-Ok c = text_told c.args.bounds.now c.in-Some.ensures.limits c.in-Ok.ensures.read cell_key_lines _ _ c.put_keys.result c.put_keys.ensures

pub returns-in-Err : goal.returns-in-Err
returns-in-Err c = ((c.in-Some.limits, c.in-Some.ensures.limits, c.in-Err.ensures.refused), refl)
