use Rattle.std.proofs.Common.{rules}
use Rattle.oas_bytes.proofs.readers.ReaderSourceSource.ahead.Goals as goal

pub returns : goal.returns
returns g c = search rules
