use Rattle.std.proofs.Common.{◌≡◌, ℕ, ◌*◌, ◌<◌, None}
use Rattle.oas_shape.specs.Steps.{still}
use Rattle.oas_drawing.specs.Drawing.{drawn_by}
use Rattle.oas_drawing.specs.Reasons.{weight_if, fault_of}
use Rattle.oas_reader.specs.Stores.{Draws}
use Rattle.oas_reader.specs.Copying.{place_offset, first_stacks}
use Rattle.oas_reader.proofs.copying.hold_copies.Given as goal

abbrev pub invariant-loop-j : goal.invariant-loop-j
invariant-loop-j g l = record {
  weight : l.weight ≡ l.j * (l.places.copies * weight_if (drawn_by l.modal l.kind still));
  held : Draws g.S.CellStore.store l.fn.held (first_stacks l.modal l.kind l.repeated l.places l.j) l.held;
  fit : (j : ℕ) → j < l.j → fault_of (drawn_by l.modal l.kind (place_offset l.modal l.repeated l.places j)) ≡ None;
}
