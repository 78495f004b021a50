use Rattle.std.proofs.Common.{refl, ◌∙◌, ap, ◌+◌, ◌-◌, ◌^◌, min, ℕ}
use Rattle.oas_bytes.proofs.OutletLemmas.{window_sent, window_lost, again}
use Rattle.oas_bytes.proofs.outlets.Outlet.spill.Goals as goal

pub returns-in-Ok-clause-writes : goal.returns-in-Ok-clause-writes
returns-in-Ok-clause-writes g c =
    let sent = c.in-Ok.ensures.ok in
    window_sent g.W.Device.calls c.args.self.now _ refl c.if-self.false c.if-self.false sent.0 sent.2
    (c.saturating_add-self.ensures ∙ ap (λ (n : ℕ). min (c.args.self.now.taken + n) (2 ^ 64 - 1)) sent.1)

pub returns-in-Err-clause-writes : goal.returns-in-Err-clause-writes
returns-in-Err-clause-writes g c =
    let part = c.in-Err.ensures.err in
    window_lost g.W.Device.calls c.args.self.now _ refl c.if-self.false c.in-Err.count refl part.1 part.2 c.saturating_add-self-in-Err.ensures

pub returns-then-self-clause-writes : goal.returns-then-self-clause-writes
returns-then-self-clause-writes g c = again g.W.Device.calls c.args.self.now c.if-self.true
