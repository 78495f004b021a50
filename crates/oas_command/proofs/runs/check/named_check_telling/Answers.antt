use Rattle.std.proofs.Common.{Ok}
use Rattle.oas_command.specs.Lines.{named_check_line}
use Rattle.oas_command.proofs.RunLemmas.{result_after, judged, delivers, tells}
use Rattle.oas_command.proofs.runs.check.named_check_telling.Goals as goal

pub returns-in-Ok : goal.returns-in-Ok
returns-in-Ok g c =
    let found = c.in-Ok.ensures in
    let written = c.write_named_check-written.result in
    let wrote = c.write_named_check-written.ensures in (
      Ok c.in-Ok.yes,
      result_after c.in-Ok.yes written,
      judged c.in-Ok.yes written _ _ c.status_of_verdict.ensures c.conclude.ensures.answers,
      record { judged = found.judged; refused = found.refused; placed = found.placed; decided = found.decided; exactly = found.exactly },
      delivers c.in-Ok.yes g.W.Device.calls (named_check_line c.args.label) written c.args.out.now c.write_named_check-written.new.out wrote.written wrote.refused,
      tells c.in-Ok.yes g.K.Sink.given g.K.Sink.failures c.args.name.now c.args.told.now written c.conclude.new.told c.conclude.ensures.ends,
    )
