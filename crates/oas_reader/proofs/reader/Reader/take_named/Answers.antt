use Rattle.oas_peek.specs.Named.{named_record}
use Rattle.oas_reader.proofs.ReaderLemmas.{take_ok, take_err}
use Rattle.oas_reader.proofs.reader.Reader.take_named.Goals as goal

pub returns-in-Ok-clause-taken : goal.returns-in-Ok-clause-taken
returns-in-Ok-clause-taken g c = λ rs h. take_ok g.S.CellStore.store c.self.inside.failed c.self.inside.parts c.accept_named.new.parts c.args.self.now rs (named_record c.args.next.now) c.self.view_is h
    c.in-Ok.ensures.reason c.in-Ok.ensures.new

pub returns-in-Err-clause-refused : goal.returns-in-Err-clause-refused
returns-in-Err-clause-refused g c = λ rs h.
    (c.keep.ensures.refusal.0, rw c.keep.ensures.refusal.1 (take_err g.S.CellStore.store c.self.inside.failed c.self.inside.parts c.args.self.now rs (named_record c.args.next.now) c.in-Err.why c.self.view_is h c.in-Err.ensures.err))
