use Rattle.std.proofs.Common.{rules}
use Rattle.oas_bytes.proofs.outlets.Outlet.new.Goals as goal

pub returns : goal.returns
returns g c = search rules
