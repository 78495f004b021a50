use Rattle.oas_checksum.proofs.SigningLemmas.{signed_shifted}
use Rattle.oas_checksum.proofs.signing.SignedSums.push.Goals as goal

pub returns-in-Some : goal.returns-in-Some
returns-in-Some c = λ bytes f.
    let before = rw (← c.self.view_is) at f in
    signed_shifted c.self.inside.before c.push-in-Some.new.self c.self.inside.last c.push.new.self c.args.byte c.in-Some.first bytes before
    (rw c.in-Some.is at c.push.ensures) c.push-in-Some.ensures
