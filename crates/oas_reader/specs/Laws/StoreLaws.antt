-- What stores represent, in whatever order it was drawn.
use Rattle.std.proofs.Common.{List, ◌∙◌, ap}
use Rattle.oas_drawing.specs.declared.drawn.Drawn.{Drawn}
use Rattle.oas_drawing.specs.Drawn.{weight_so_far}
use Rattle.oas_reader.specs.Alike.{SameDrawn}
use Rattle.oas_reader.specs.Weights.{capped}
use Rattle.oas_reader.specs.Counted.{Counted, placed_by, written_by, counted_store}

-- what is counted of it
pub counted_in_any_order : (c : Counted) (ds es : List Drawn) → counted_store.Holds c ds → SameDrawn ds es → counted_store.Holds c es
counted_in_any_order c ds es holds same = record {
  weight = holds.weight ∙ ap capped (same.sums weight_so_far);
  placed = λ f. holds.placed f ∙ same.sums (placed_by f);
  written = λ f. holds.written f ∙ same.sums (written_by f);
}
