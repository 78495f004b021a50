use Rattle.std.proofs.Common.{rules}
use Rattle.oas_files.proofs.words.file_of_word.Goals as goal

pub returns-then-eq-clause-file : goal.returns-then-eq-clause-file
returns-then-eq-clause-file c = search rules

pub returns-else-eq-clause-dash : goal.returns-else-eq-clause-dash
returns-else-eq-clause-dash c = search rules
