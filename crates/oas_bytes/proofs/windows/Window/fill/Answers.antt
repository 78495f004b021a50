use Rattle.std.proofs.Common.{arith}
use Rattle.std.proofs.lemmas.List.{length-take-le}
use Rattle.oas_bytes.proofs.windows.Window.fill.Goals as goal

pub returns : goal.returns
returns c = length-take-le 8192 c.self.inside.bytes (omega arith)
