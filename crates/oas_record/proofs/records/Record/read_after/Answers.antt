use Rattle.std.proofs.Common.{rules}
use Rattle.oas_record.proofs.records.Record.read_after.Goals as goal

pub read_element-requires-clause-above : goal.read_element-requires-clause-above
read_element-requires-clause-above g c = search rules
