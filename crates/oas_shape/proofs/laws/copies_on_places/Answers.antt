use Rattle.oas_shape.specs.Laws.PlaceLaws.{places}
use Rattle.oas_shape.proofs.laws.copies_on_places.Goals as goal

pub returns : goal.returns
returns c = places
