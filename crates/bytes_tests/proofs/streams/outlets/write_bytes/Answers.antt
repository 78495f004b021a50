use Rattle.oas_bytes.specs.Laws.OutletLaws.{writer_has, writer_took, writer_took_rest}
use Rattle.bytes_tests.proofs.streams.outlets.write_bytes.Goals as goal

pub returns-in_default-clause-err : goal.returns-in_default-clause-err
returns-in_default-clause-err g c = rw c.taken.ensures (writer_took g.W.Device.calls _ _ _ _ _ c.new-outlet.ensures c.in_default.ensures c.writer-1.given.1)

pub returns-in_default-close-clause-err : goal.returns-in_default-close-clause-err
returns-in_default-close-clause-err g c = rw c.taken-in_default-close.ensures
    (writer_took_rest g.W.Device.calls _ _ _ _ _ _ c.new-outlet.ensures c.in-Ok.ensures c.in_default-close.ensures.writes
    c.writer-in_default-close-1.given.1)

pub returns-clause-ok : goal.returns-clause-ok
returns-clause-ok g c = writer_has g.W.Device.calls _ _ _ _ _ _ c.new-outlet.ensures c.in-Ok.ensures c.in-Ok-close.ensures.writes c.in-Ok-close.ensures.all c.writer-2-1.given.1
