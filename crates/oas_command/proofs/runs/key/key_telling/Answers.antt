use Rattle.std.proofs.Common.{Ok}
use Rattle.oas_command.specs.Lines.{key_line}
use Rattle.oas_command.proofs.RunLemmas.{result_after, done, delivers, tells}
use Rattle.oas_command.proofs.runs.key.key_telling.Goals as goal

pub returns-in-Ok : goal.returns-in-Ok
returns-in-Ok g c =
    let found = c.in-Ok.ensures in
    let written = c.write_line-written.result in
    let wrote = c.write_line-written.ensures in (
      Ok c.in-Ok.digest,
      result_after c.in-Ok.digest written,
      done c.in-Ok.digest written _ c.conclude.ensures.answers,
      record { keyed = found.keyed; refused = found.refused; placed = found.placed; decided = found.decided; exactly = found.exactly },
      delivers c.in-Ok.digest g.W.Device.calls key_line written c.args.out.now c.write_line-written.new.writer (rw c.hex_text.ensures at wrote.written) (rw c.hex_text.ensures at wrote.refused),
      tells c.in-Ok.digest g.K.Sink.given g.K.Sink.failures c.args.name.now c.args.told.now written c.conclude.new.told c.conclude.ensures.ends,
    )
