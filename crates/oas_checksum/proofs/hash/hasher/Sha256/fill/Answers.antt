use Rattle.std.proofs.Common.{◌-◌, ◌%◌, ap, arith, refl}
use Rattle.oas_checksum.proofs.HashingLemmas.{held_edge, held_full}
use Rattle.oas_checksum.proofs.hash.hasher.Sha256.fill.Goals as goal
use borrow.Rule.Slice.PartMut.{put_mid}

pub returns-then-used-gt0-clause-bytes : goal.returns-then-used-gt0-clause-bytes
returns-then-used-gt0-clause-bytes c = λ m held.
    let s = c.args.self.now in
    let used = s.total % 64 in
    rw c.compress.ensures
    (held_full s m c.args.bytes.now _ used (64 - used) held (omega arith) refl (omega arith) refl (ap (put_mid used (64 - used) s.rest) c.copy_from_slice.ensures.after))

pub returns-else-used-gt0-clause-bytes : goal.returns-else-used-gt0-clause-bytes
returns-else-used-gt0-clause-bytes c = λ m held. held_edge c.args.self.now m c.args.bytes.now held c.if-used-gt0.false c.requires
