use Rattle.std.proofs.Common.{refl, length, ◌≡◌, false, arith}
use Rattle.oas_bytes.proofs.OutletLemmas.{bytes_kept, works_below}
use Rattle.oas_bytes.proofs.outlets.OutletSink.put_all.Goals as goal

pub returns-then-bytes-room : goal.returns-then-bytes-room
returns-then-bytes-room g c =
    let o = c.args.self.now in
    let works : o.failed ≡ false = works_below (length o.window) o.failed o.full (omega (arith, c.room.ensures, c.if-bytes-room.true)) in
    bytes_kept g.W.Device.calls o _ refl works c.args.bytes.now refl c.extend.ensures refl works
