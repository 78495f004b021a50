use Rattle.std.proofs.Common.{◌∷◌, [], refl, length, ◌≡◌, false, arith}
use Rattle.oas_bytes.proofs.OutletLemmas.{bytes_kept, works_below}
use Rattle.oas_bytes.proofs.outlets.OutletSink.put_two.Goals as goal

pub returns-then-has_room_for : goal.returns-then-has_room_for
returns-then-has_room_for g c =
    let o = c.args.self.now in
    let works : o.failed ≡ false = works_below (length o.window) o.failed o.full (omega (arith, c.has_room_for.ensures c.if-has_room_for.true)) in
    bytes_kept g.W.Device.calls o _ refl works (c.args.first ∷ c.args.second ∷ []) refl c.extend.ensures refl works
