use Rattle.oas_elements.specs.Bag.{items}
use Rattle.oas_info.proofs.CountingLemmas.{of_cell_room}
use Rattle.oas_info.proofs.counting.count_cell.Goals as goal

pub count_elements-requires-clause-room : goal.count_elements-requires-clause-room
count_elements-requires-clause-room c = of_cell_room c.args.name.now (items c.args.elements) c.args.totals.now c.requires.room
