use Rattle.std.proofs.Common.{rules, ◌≡◌, ◌+◌, ◌<◌, length, slice_index}
use Rattle.oas_runs.proofs.EntryLemmas.{Reads, reads_short}
use Rattle.oas_runs.proofs.entry.read_entry.Goals as goal
use Rattle.oas_runs.proofs.entry.read_entry.Goals.{After-from}

read : (c : After-from) → Reads c.args.bytes.now c.part.result.now c.from.result (2 + c.from-len.result)
read c =
    let some : 0 < length c.args.bytes.now = search rules in
    let len : c.from-len.result ≡ slice_index c.args.bytes.now 0 = search rules in
    let times : c.from.result ≡ slice_index c.args.bytes.now 1 = search rules in
    let short : c.from-len.result < 255 = search rules in
    let few : c.from.result < 255 = search rules in
    reads_short c.args.bytes.now c.part.result.now c.from-len.result c.from.result some c.requires len times short few c.part.ensures

pub returns-clause-some : goal.returns-clause-some
returns-clause-some c = (read c).some

pub returns-clause-rest : goal.returns-clause-rest
returns-clause-rest c = (read c).rest
