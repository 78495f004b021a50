use Rattle.std.proofs.Common.{rules}
use Rattle.oas_long_integers.proofs.places.joined.Goals as goal

pub returns-then-byte-eq0 : goal.returns-then-byte-eq0
returns-then-byte-eq0 c = search rules
