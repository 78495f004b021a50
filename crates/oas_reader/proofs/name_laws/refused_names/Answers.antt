use Rattle.oas_reader.proofs.NameLemmas.{mixed_where, twice_where}
use Rattle.oas_reader.proofs.name_laws.refused_names.Goals as goal

pub returns-clause-mixed : goal.returns-clause-mixed
returns-clause-mixed c = mixed_where

pub returns-clause-twice : goal.returns-clause-twice
returns-clause-twice c = twice_where
