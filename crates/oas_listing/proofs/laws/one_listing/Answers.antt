use Rattle.oas_listing.proofs.SameLayouts as law
use Rattle.oas_listing.proofs.laws.one_listing.Goals as goal

pub returns : goal.returns
returns c = law.one_listing
