use Rattle.std.proofs.Common.{refl}
use Rattle.oas_bytes.proofs.OutletLemmas.{flushed, flush_failed}
use Rattle.oas_bytes.proofs.outlets.Outlet.flush.Goals as goal

pub returns-in-Ok-clause-writes : goal.returns-in-Ok-clause-writes
returns-in-Ok-clause-writes g c =
    let done = c.requires in
    flushed g.W.Device.calls c.args.self.now _ refl done.works c.in-Ok.ensures.calls done.none refl done.works refl

pub returns-in-Err-clause-writes : goal.returns-in-Err-clause-writes
returns-in-Err-clause-writes g c =
    let done = c.requires in
    flush_failed g.W.Device.calls c.args.self.now _ refl done.works c.in-Err.ensures.calls done.none refl refl
