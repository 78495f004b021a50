use Rattle.std.proofs.Common.{rules}
use Rattle.oas_form.proofs.parts.put_bytes.Goals as goal

pub returns : goal.returns
returns g c = search rules
