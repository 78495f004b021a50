use Rattle.oas_reader.proofs.ReaderLemmas.{take_ok, take_err}
use Rattle.oas_reader.proofs.reader.Reader.take.Goals as goal

pub returns-in-Ok-clause-taken : goal.returns-in-Ok-clause-taken
returns-in-Ok-clause-taken g c = λ rs h. take_ok g.S.CellStore.store c.self.inside.failed c.self.inside.parts c.accept.new.parts c.args.self.now rs c.args.next c.self.view_is h
    c.in-Ok.ensures.reason c.in-Ok.ensures.new

pub returns-clause-refused : goal.returns-clause-refused
returns-clause-refused g c = λ rs h.
    (c.keep.ensures.refusal.0, rw c.keep.ensures.refusal.1 (take_err g.S.CellStore.store c.self.inside.failed c.self.inside.parts c.args.self.now rs c.args.next c.in-Err.why c.self.view_is h c.in-Err.ensures.err))
