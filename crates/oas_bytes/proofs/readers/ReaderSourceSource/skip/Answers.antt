use Rattle.std.proofs.Common.{◌+◌, ◌≤◌, length, take, subst}
use Rattle.oas_bytes.specs.Script.{Consumed}
use Rattle.oas_bytes.specs.Readers.{Reading, reader_script, IsSoundReader}
use Rattle.oas_bytes.proofs.ReaderLemmas.{reader_skips, sound_skips}
use Rattle.oas_bytes.proofs.readers.ReaderSourceSource.skip.Goals as goal

pub returns : goal.returns
returns g c =
    let i = c.self.inside in
    let count = c.args.count in
    subst (λ (s : Reading). count ≤ length s.at_hand → Consumed s.script (take count s.at_hand)
    (reader_script (g.R.Read.remaining i.reader.reader) i.reader.returned.bytes i.window.items (i.start + count) i.filled (i.before + (i.start + count)) i.limit i.ending))
    c.self.view_is (λ few. reader_skips (g.R.Read.remaining i.reader.reader) i.reader.returned.bytes i.window.items i.filled i.before i.limit i.ending i.start i.end count c.self.invariant few) c.requires

pub invariant_of-self : goal.invariant_of-self
invariant_of-self g c =
    let i = c.self.inside in
    let count = c.args.count in
    subst (λ (s : Reading). count ≤ length s.at_hand → IsSoundReader (g.R.Read.remaining i.reader.reader) i.reader.returned.bytes i.window.items (i.start + count) i.end i.filled i.before i.limit i.ending)
    c.self.view_is (λ few. sound_skips (g.R.Read.remaining i.reader.reader) i.reader.returned.bytes i.window.items i.filled i.before i.limit i.ending i.start i.end count c.self.invariant few) c.requires
