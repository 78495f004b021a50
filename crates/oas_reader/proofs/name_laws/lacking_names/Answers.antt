use Rattle.oas_reader.proofs.ReferenceLemmas.{lacks_where, lacks_tables}
use Rattle.oas_reader.proofs.name_laws.lacking_names.Goals as goal

pub returns-clause-used : goal.returns-clause-used
returns-clause-used c = lacks_where

pub returns-clause-tables : goal.returns-clause-tables
returns-clause-tables c = lacks_tables
