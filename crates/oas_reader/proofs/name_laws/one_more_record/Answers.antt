use Rattle.oas_reader.specs.Names.{same_string}
use Rattle.oas_reader.proofs.NameTables.{same_reason, one_more}
use Rattle.oas_reader.proofs.name_laws.one_more_record.Goals as goal

pub returns-clause-reason : goal.returns-clause-reason
returns-clause-reason c = λ given t before r h. same_reason same_string given t before r h

pub returns-clause-stands : goal.returns-clause-stands
returns-clause-stands c = λ given t before r h none. one_more same_string given t before r h none
