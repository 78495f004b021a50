use Rattle.oas_judge.proofs.GivenLemmas.{given_kept}
use Rattle.oas_judge.proofs.given.read_given_named.Goals as goal

pub returns-then-verdict-clause-read : goal.returns-then-verdict-clause-read
returns-then-verdict-clause-read g c =
    let judged = rw c.in-Ok.is at c.judge_kept-judged.ensures.judged in
    given_kept c.in-Some.bytes.items (judged.1 c.if-verdict.true) (rw c.in-Some.is at c.judge_kept-judged.ensures.kept)
