use Rattle.std.proofs.Common.{rules}
use Rattle.oas_record.proofs.HeadLemmas.{front_read}
use Rattle.oas_record.proofs.heads.read_head.Goals as goal

pub returns-in-Ok : goal.returns-in-Ok
returns-in-Ok g c = front_read c.in_default.ensures c.in-Ok.ensures

pub returns-in-Err : goal.returns-in-Err
returns-in-Err g c = search rules
