use Rattle.oas_reader.proofs.NameLemmas.{numbering_of_each, string_is_given, no_string_is_given}
use Rattle.oas_reader.proofs.name_laws.one_string.Goals as goal

pub returns-clause-numbering : goal.returns-clause-numbering
returns-clause-numbering c = numbering_of_each

pub returns-clause-string : goal.returns-clause-string
returns-clause-string c = string_is_given

pub returns-clause-none : goal.returns-clause-none
returns-clause-none c = no_string_is_given
