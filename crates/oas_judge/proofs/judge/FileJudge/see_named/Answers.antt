use Rattle.oas_judge.proofs.JudgeSteps.{named_drawn}
use Rattle.oas_judge.proofs.judge.FileJudge.see_named.Goals as goal

pub returns-then-ahead-clause-yes : goal.returns-then-ahead-clause-yes
returns-then-ahead-clause-yes c done all is =
    let drawn = c.draw_named.ensures.yes done in
    record {
      element = drawn.0;
      is = drawn.1.is;
      fit = drawn.1.fit;
      taking = named_drawn c.args.self.now _ c.args.ahead.now drawn.0 all c.requires.told is c.if-ahead.true drawn.1 drawn.2;
    }
