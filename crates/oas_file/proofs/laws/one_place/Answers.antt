use Rattle.oas_file.proofs.PlaceLaws as law
use Rattle.oas_file.proofs.SomePlaces.{some_place}
use Rattle.oas_file.proofs.laws.one_place.Goals as goal

pub returns : goal.returns
returns c = record { one = law.one_place; none = law.no_place; some = some_place }
