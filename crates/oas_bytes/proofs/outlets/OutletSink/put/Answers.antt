use Rattle.std.proofs.Common.{◌∷◌, [], refl, length, ◌≡◌, false, rules}
use Rattle.oas_bytes.proofs.OutletLemmas.{bytes_kept, works_below}
use Rattle.oas_bytes.proofs.outlets.OutletSink.put.Goals as goal

pub push-requires : goal.push-requires
push-requires g c = c.is_full.ensures.room c.if-is_full.false

pub returns-clause-writes : goal.returns-clause-writes
returns-clause-writes g c =
    let o = c.args.self.now in
    let works : o.failed ≡ false = works_below (length o.window) o.failed o.full (c.is_full.ensures.room c.if-is_full.false) in
    bytes_kept g.W.Device.calls o _ refl works (c.args.byte ∷ []) refl c.push.ensures refl works

pub returns-then-is_full-clause-writes : goal.returns-then-is_full-clause-writes
returns-then-is_full-clause-writes g c = search rules

pub returns-then-is_full-clause-settled : goal.returns-then-is_full-clause-settled
returns-then-is_full-clause-settled g c = search rules
