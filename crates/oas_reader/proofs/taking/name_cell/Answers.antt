use Rattle.oas_reader.proofs.TakeLemmas.{took_name}
use Rattle.oas_reader.proofs.taking.name_cell.Goals as goal

pub returns-clause-new : goal.returns-clause-new
returns-clause-new g c = took_name g.S.CellStore.store c.args.parts.now _ c.args.name c.args.number c.name.new.self c.in_ok-name.ensures.ok.1 c.in_ok-close.ensures.closed c.in_ok-close.ensures.cells
