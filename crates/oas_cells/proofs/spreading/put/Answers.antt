use Rattle.std.proofs.Common.{arith}
use Rattle.oas_cells.specs.Short.{drawn_of}
use Rattle.oas_cells.proofs.SortLemmas.{gains_where_put}
use Rattle.oas_cells.proofs.spreading.put.Goals as goal

pub returns-clause-more : goal.returns-clause-more
returns-clause-more c =
    gains_where_put c.push.result c.args.parts.now c.min.result c.index-parts-min.result c.push.new.self (drawn_of c.args.short, 1) (search arith) c.push.ensures.ok
