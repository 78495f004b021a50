use Rattle.oas_checksum.proofs.DivisionLemmas.{leaves}
use Rattle.oas_checksum.proofs.laws.remainder.Goals as goal

pub returns : goal.returns
returns c = leaves
