use Rattle.std.proofs.Common.{Ok, rules}
use Rattle.oas_command.specs.Lines.{same_line}
use Rattle.oas_command.proofs.RunLemmas.{result_after, judged, delivers, tells}
use Rattle.oas_command.proofs.runs.same.same_telling.Goals as goal

pub returns-in-Ok : goal.returns-in-Ok
returns-in-Ok g c =
    let found = c.in-Ok.ensures in
    let written = c.write_sameness-written.result in
    let wrote = c.write_sameness-written.ensures in (
      Ok c.in-Ok.same,
      result_after c.in-Ok.same written,
      judged c.in-Ok.same written _ _ c.status_of_verdict.ensures c.conclude.ensures.answers,
      record { compared = found.compared; first = found.first; second = found.second; exactly = found.exactly },
      delivers c.in-Ok.same g.W.Device.calls same_line written c.args.out.now c.write_sameness-written.new.out wrote.written wrote.refused,
      tells c.in-Ok.same g.K.Sink.given g.K.Sink.failures c.args.name_a.now c.args.told.now written c.conclude.new.told c.conclude.ensures.ends,
    )

pub returns-in-Err-Second-default : goal.returns-in-Err-Second-default
returns-in-Err-Second-default g c = search rules
