use Rattle.std.proofs.Common.{Ok}
use Rattle.oas_command.specs.Lines.{saved_key_line}
use Rattle.oas_command.proofs.RunLemmas.{result_after, judged, delivers, tells}
use Rattle.oas_command.proofs.runs.kept.kept_telling.Goals as goal

pub returns-in-Ok : goal.returns-in-Ok
returns-in-Ok g c =
    let found = c.in-Ok.ensures in
    let same = c.is_text_of-same.result in
    let written = c.write_kept-written.result in
    let wrote = c.write_kept-written.ensures in (
      Ok c.in-Ok.digest,
      Ok same,
      result_after same written,
      judged same written _ _ c.status_of_verdict.ensures c.conclude.ensures.answers,
      record { keyed = found.keyed; refused = found.refused; placed = found.placed; decided = found.decided; exactly = found.exactly },
      c.is_text_of-same.ensures,
      delivers same g.W.Device.calls (saved_key_line c.args.is_quiet c.args.label) written c.args.out.now c.write_kept-written.new.out wrote.written wrote.refused,
      tells same g.K.Sink.given g.K.Sink.failures c.args.name.now c.args.told.now written c.conclude.new.told c.conclude.ensures.ends,
    )
