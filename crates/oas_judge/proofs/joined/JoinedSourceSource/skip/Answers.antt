use Rattle.oas_judge.proofs.JoinedLemmas.{skips_left}
use Rattle.oas_judge.proofs.joined.JoinedSourceSource.skip.Goals as goal

pub returns-then-self : goal.returns-then-self
returns-then-self g c =
    let j = c.args.self.now in
    let waits = j.joined.waits c.if-self.true in
    skips_left g.K.Front.script (g.S.Source.script j.source.now) j.kept.now _ j.at c.args.count j.asked _ waits.0 c.if-self.true
