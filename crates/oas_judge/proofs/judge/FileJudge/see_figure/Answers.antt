use Rattle.std.proofs.Common.{sym}
use Rattle.oas_judge.specs.Peeked.{IsFigureBy}
use Rattle.oas_judge.proofs.FigureSteps.{figure_is, figure_drawn}
use Rattle.oas_judge.proofs.judge.FileJudge.see_figure.Goals as goal

pub returns-clause-some : goal.returns-clause-some
returns-clause-some c all is =
    let e = c.in_ok-element.element in
    let by : IsFigureBy c.args.self.now.profile c.args.ahead.now c.in_ok-element.element = c.in_ok-element.ensures in (
      record {
        element = e;
        is = figure_is c.args.ahead.now.record e (is.plain by.shortest) by.drawn;
        fit = by.fit;
        taking = figure_drawn c.args.self.now _ c.args.ahead.now e all c.requires is by c.draw_spelled.ensures;
      },
      sym c.weight-weight.ensures,
    )
