use Rattle.oas_reader.proofs.TakeLemmas.{took_string}
use Rattle.oas_reader.proofs.taking.name_string.Goals as goal

pub returns-clause-new : goal.returns-clause-new
returns-clause-new g c = took_string g.S.CellStore.store c.args.parts.now _ c.args.label c.args.number c.name.new.self c.in_ok-name.ensures.ok.1 c.in_ok-close.ensures.closed
    c.in_ok-close.ensures.cells
