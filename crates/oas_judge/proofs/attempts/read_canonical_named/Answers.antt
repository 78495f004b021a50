use Rattle.oas_judge.proofs.GivenLemmas.{given_kept}
use Rattle.oas_judge.proofs.attempts.read_canonical_named.Goals as goal

pub returns-in-Ok-clause-read : goal.returns-in-Ok-clause-read
returns-in-Ok-clause-read g c =
    let judged = rw c.in-Ok.is at c.judge_kept-judged.ensures.judged in
    given_kept c.in-Some.bytes.items (judged.1 c.if-verdict.true) (rw c.in-Some.is at c.judge_kept-judged.ensures.kept)
