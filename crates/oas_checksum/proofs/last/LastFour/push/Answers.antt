use Rattle.std.proofs.Common.{arith}
use Rattle.oas_checksum.proofs.SigningLemmas.{held_more}
use Rattle.oas_checksum.proofs.last.LastFour.push.Goals as goal

pub returns-then-self-lt4 : goal.returns-then-self-lt4
returns-then-self-lt4 c = rw (← c.self.view_is, c.from.ensures) (held_more c.self.inside.number c.args.byte c.self.inside.count (omega arith) (omega arith) c.if-self-lt4.true)
