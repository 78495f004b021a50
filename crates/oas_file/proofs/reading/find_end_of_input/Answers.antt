use Rattle.std.proofs.Common.{rules}
use Rattle.oas_file.proofs.reading.find_end_of_input.Goals as goal

pub returns-in-Ok-Some : goal.returns-in-Ok-Some
returns-in-Ok-Some g c = search rules

pub returns-in-Err-Device : goal.returns-in-Err-Device
returns-in-Err-Device g c = search rules
