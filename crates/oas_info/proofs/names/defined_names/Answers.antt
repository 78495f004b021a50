use Rattle.std.proofs.Common.{◌≡◌, rules}
use Rattle.oas_info.proofs.NameLemmas.{naming, cells_begin, cell_added, defined_done}
use Rattle.oas_info.proofs.names.defined_names.Goals as goal

pub loop-name-init : goal.loop-name-init
loop-name-init c =
    let same : c.into_iter-name-iterator.result ≡ c.args.layout.now.cells = search rules in
    cells_begin naming c.args.layout.now c.into_iter-name-iterator.result _ c.cells-name-items.ensures.layout same (search rules)

pub loop-name-preserved : goal.loop-name-preserved
loop-name-preserved c =
    cell_added naming c.args.layout.now _ _ _ c.in-Some.ensures.steps c.loop-name.names.keys c.loop-name.invariant c.add_name.new.names.keys
    (rw c.as_bytes.ensures.bytes at c.in_ok-add_name.ensures)

pub returns : goal.returns
returns c = defined_done c.args.layout.now _ c.loop-name.names.keys c.loop-name.invariant c.in-None.ensures.steps.0
