use Rattle.std.proofs.Common.{Result, ap, subst, ◌∙◌}
use Rattle.oas_prepare.specs.Report.{Report}
use Rattle.oas_prepare.specs.Rejection.{Rejection}
use Rattle.oas_preparing.specs.Answers.{answered}
use Rattle.oas_preparing.specs.Runs.{status_of, Ends}
use Rattle.oas_preparing.proofs.JudgedLemmas.{prepares}
use Rattle.oas_preparing.proofs.runs.write_telling.Goals as goal

pub returns : goal.returns
returns g c =
    let written = c.write_given-written.result in
    let wrote = c.write_given-written.ensures in (
      answered c.args.report written,
      c.conclude.ensures.answers ∙ ap status_of c.answered.ensures,
      λ limits dropping old new read. prepares g.W.Device.calls c.args.out.now c.write_given-written.new.writer c.args.given.now c.args.report written wrote.written wrote.refused read,
      subst (λ (r : Result Report Rejection). Ends g.K.Sink.given g.K.Sink.failures c.args.name.now c.args.told.now r c.conclude.new.told) c.answered.ensures c.conclude.ensures.ends,
    )
