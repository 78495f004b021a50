use Rattle.std.proofs.Common.{rules}
use Rattle.oas_reader.proofs.names.NameTable.reason.Goals as goal

pub returns : goal.returns
returns g c = search rules

pub returns-then-has_other_string : goal.returns-then-has_other_string
returns-then-has_other_string g c = search rules

pub returns-2 : goal.returns-2
returns-2 g c = search rules
