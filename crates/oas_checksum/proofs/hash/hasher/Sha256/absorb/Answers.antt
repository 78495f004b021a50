use Rattle.std.proofs.Common.{◌-◌, ◌%◌, ◌++◌, arith, take}
use Rattle.oas_checksum.proofs.HashingLemmas.{at_edge, rejoined}
use Rattle.oas_checksum.proofs.hash.hasher.Sha256.absorb.Goals as goal

pub returns-else-bytes-room-clause-bytes : goal.returns-else-bytes-room-clause-bytes
returns-else-bytes-room-clause-bytes c = λ m held.
    let d = c.args.bytes.now in
    let room = (64 - c.args.self.now.total % 64) % 64 in
    let edge = at_edge c.args.self.now m d room held (omega arith) (omega arith) in
    rejoined c.take_blocks.new.self m d room (c.take_blocks.ensures.bytes (m ++ take room d) edge (c.fill.ensures.bytes m held))
