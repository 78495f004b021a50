use Rattle.std.proofs.Common.{◌≡◌, rules}
use Rattle.oas_info.proofs.NameLemmas.{placing, cells_begin, cell_tally, cell_added, placed_done}
use Rattle.oas_info.proofs.names.placed_names.Goals as goal

pub loop-elements-init : goal.loop-elements-init
loop-elements-init c =
    let same : c.into_iter-elements-iterator.result ≡ c.args.layout.now.cells = search rules in
    cells_begin placing c.args.layout.now c.into_iter-elements-iterator.result _ c.cells-elements-items.ensures.layout same (search rules)

pub add_placed-requires : goal.add_placed-requires
add_placed-requires c = cell_tally placing c.args.layout.now _ _ _ c.in-Some.ensures.steps c.loop-elements.names.keys c.loop-elements.invariant

pub loop-elements-preserved : goal.loop-elements-preserved
loop-elements-preserved c =
    cell_added placing c.args.layout.now _ _ _ c.in-Some.ensures.steps c.loop-elements.names.keys c.loop-elements.invariant c.add_placed.new.names.keys c.in_ok-add_placed.ensures

pub returns : goal.returns
returns c = placed_done c.args.layout.now _ c.loop-elements.names.keys c.loop-elements.invariant c.in-None.ensures.steps.0
