use Rattle.oas_judge.proofs.JudgeSteps.{peeked_drawn}
use Rattle.oas_judge.proofs.judge.FileJudge.see_rectangle.Goals as goal

pub returns-clause-yes : goal.returns-clause-yes
returns-clause-yes c done all is =
    let spelled = c.in-Some.ensures in
    record {
      element = c.in-Some.element;
      is = spelled.is;
      fit = spelled.fit;
      taking = peeked_drawn c.args.self.now _ c.args.ahead.now c.in-Some.element all c.requires is spelled c.draw_spelled.ensures;
    }
