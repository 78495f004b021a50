use Rattle.std.proofs.Common.{ap, arith, rules}
use Rattle.std.proofs.lemmas.List.{get_or_read}
use Rattle.oas_bytes.specs.Readers.{Reading}
use Rattle.oas_bytes.proofs.ReaderLemmas.{has_byte, gives_next, sound_next}
use Rattle.oas_bytes.proofs.readers.ReaderSourceSource.next.Goals as goal

pub returns : goal.returns
returns g c =
    let i = c.self.inside in
    let h = has_byte _ _ _ _ _ _ _ _ _ _ (ap (λ (r : Reading). r.script) c.self.view_is) c.self.invariant c.if-self.false in
    gives_next c.args.self.now.script (g.R.Read.remaining i.reader.reader) i.reader.returned.bytes i.window.items i.start i.end i.filled i.before i.limit i.ending h c.index-byte.result.now
    c.if-self.false (get_or_read i.window.items _ _ (omega (arith, h.ready.some, h.ready.within)) c.index-byte.ensures 0) (omega arith)

pub returns-then-self : goal.returns-then-self
returns-then-self g c = search rules

pub invariant_of-self : goal.invariant_of-self
invariant_of-self g c =
    let h = has_byte _ _ _ _ _ _ _ _ _ _ (ap (λ (r : Reading). r.script) c.self.view_is) c.self.invariant c.if-self.false in
    sound_next _ _ _ _ _ _ _ _ _ _ h c.if-self.false
