use Rattle.oas_drawing.proofs.Copies.{on_places}
use Rattle.oas_drawing.proofs.laws.copies_on_places.Goals as goal

pub returns : goal.returns
returns c = on_places
