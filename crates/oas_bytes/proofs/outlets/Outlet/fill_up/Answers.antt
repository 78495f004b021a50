use Rattle.std.proofs.Common.{refl, take}
use Rattle.oas_bytes.proofs.OutletLemmas.{bytes_kept}
use Rattle.oas_bytes.proofs.outlets.Outlet.fill_up.Goals as goal

pub returns-clause-puts : goal.returns-clause-puts
returns-clause-puts g c =
    bytes_kept g.W.Device.calls c.args.self.now _ refl c.requires.works (take c.min-count.result c.args.bytes.now) refl c.extend.ensures refl c.requires.works
