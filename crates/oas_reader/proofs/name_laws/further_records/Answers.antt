use Rattle.oas_reader.proofs.NameLemmas.{allowed_prefix, names_stay}
use Rattle.oas_reader.proofs.name_laws.further_records.Goals as goal

pub returns-clause-front : goal.returns-clause-front
returns-clause-front c = allowed_prefix

pub returns-clause-stay : goal.returns-clause-stay
returns-clause-stay c = names_stay
