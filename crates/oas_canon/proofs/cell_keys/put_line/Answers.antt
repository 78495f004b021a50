use Rattle.std.proofs.Common.{refl}
use Rattle.oas_elements.specs.Bag.{items}
use Rattle.oas_canon.proofs.CellKeyLemmas.{named_is}
use Rattle.oas_canon.proofs.cell_keys.put_line.Goals as goal

pub returns : goal.returns
returns g c =
    rw (named_is c.args.unit (c.args.name.now, items c.args.elements) c.cell_key.result c.args.name.now c.cell_key.ensures refl) c.put_named_key.ensures
