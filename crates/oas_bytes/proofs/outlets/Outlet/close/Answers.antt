use Rattle.std.proofs.Common.{rules}
use Rattle.oas_bytes.proofs.outlets.Outlet.close.Goals as goal

pub returns-clause-all : goal.returns-clause-all
returns-clause-all g c = search rules
