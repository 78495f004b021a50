use Rattle.std.specs.Vec.Iter.{into_iter_items}
use Rattle.oas_cells.specs.Short.{drawn_once}
use Rattle.oas_cells.proofs.PlaceLemmas.{Placing}
use Rattle.oas_cells.proofs.placing.place_shorts.Given as goal

abbrev pub invariant-loop-short : goal.invariant-loop-short
invariant-loop-short l =
    Placing l.profile l.names.named l.strings.named l.initial.kept l.kept (drawn_once l.fn.shorts.items) (drawn_once (into_iter_items l.short-iterator))
