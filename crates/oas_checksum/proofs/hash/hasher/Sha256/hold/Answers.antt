use Rattle.std.proofs.Common.{◌+◌, ◌-◌, ◌%◌, ap, arith, length, refl}
use Rattle.oas_checksum.proofs.HashingLemmas.{held_short}
use Rattle.oas_checksum.proofs.hash.hasher.Sha256.hold.Goals as goal
use borrow.Rule.Slice.PartMut.{put_mid}

pub returns-clause-bytes : goal.returns-clause-bytes
returns-clause-bytes c = λ m held.
    let s = c.args.self.now in
    let used = s.total % 64 in
    let n = used + length c.args.bytes.now - used in
    held_short s m c.args.bytes.now _ used n held (omega arith) refl c.requires (ap (put_mid used n s.rest) c.copy_from_slice.ensures.after)
