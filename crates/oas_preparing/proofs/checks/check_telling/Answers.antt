use Rattle.std.proofs.Common.{◌≡◌, Bool, Result, Ok, Err, refl, subst, ◌∙◌}
use Rattle.oas_prepare.specs.Report.{Report}
use Rattle.oas_prepare.specs.Rejection.{Rejection}
use Rattle.oas_preparing.specs.Answers.{reported, answered}
use Rattle.oas_preparing.specs.Checks.{check_text}
use Rattle.oas_preparing.specs.Runs.{Ends}
use Rattle.oas_preparing.proofs.AnswerLemmas.{delivers, reports}
use Rattle.oas_preparing.proofs.checks.check_telling.Goals as goal

pub returns-in-Ok : goal.returns-in-Ok
returns-in-Ok g c =
    let found : Bool × Report = c.in-Ok.found in
    let written = c.write_named_check-written.result in
    let wrote = c.write_named_check-written.ensures in (
      Ok found,
      answered found written,
      c.conclude_check.ensures.answers,
      c.in-Ok.ensures,
      delivers found g.W.Device.calls (check_text c.args.label) written c.args.out.now c.write_named_check-written.new.out wrote.written wrote.refused,
      subst (λ (r : Result Report Rejection). Ends g.K.Sink.given g.K.Sink.failures c.args.name.now c.args.told.now r c.conclude_check.new.told) (reports found.0 found.1 written) c.conclude_check.ensures.ends,
    )

pub returns-in-Err : goal.returns-in-Err
returns-in-Err g c = (Err c.in-Err.rejection, Err c.in-Err.rejection, c.reject.ensures.status, c.in-Err.ensures, (refl, refl), c.reject.ensures.tells)
