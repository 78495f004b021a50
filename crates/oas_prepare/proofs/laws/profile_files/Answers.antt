use Rattle.oas_prepare.proofs.ProfileFiles as law
use Rattle.oas_prepare.proofs.laws.profile_files.Goals as goal

pub returns : goal.returns
returns c = record { prepared = law.profile_is_prepared; canonical = law.profile_as_canonical }
