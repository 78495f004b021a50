use Rattle.std.proofs.Common.{rules}
use Rattle.oas_num.proofs.spelling.next_byte.Goals as goal

pub returns-in-Ok-None : goal.returns-in-Ok-None
returns-in-Ok-None g c = search rules
