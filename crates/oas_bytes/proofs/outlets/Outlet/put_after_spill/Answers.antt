use Rattle.std.proofs.Common.{refl, ◌∷◌, []}
use Rattle.std.proofs.lemmas.Result.{err_from_is_err_and}
use Rattle.oas_bytes.proofs.WritingLemmas.{Puts-then, front_fails}
use Rattle.oas_bytes.proofs.OutletLemmas.{bytes_kept}
use Rattle.oas_bytes.proofs.outlets.Outlet.put_after_spill.Goals as goal

pub returns-in_err-spill-clause-writes : goal.returns-in_err-spill-clause-writes
returns-in_err-spill-clause-writes g c =
    let p = err_from_is_err_and c.from_residual.result c.from_residual.ensures.1 in
    rw p.1 (front_fails _ _ _ _ [] (c.args.byte ∷ []) c.in_err-spill.ensures.writes)

pub returns-clause-writes : goal.returns-clause-writes
returns-clause-writes g c =
    let done = c.in_ok-spill.ensures.all in
    Puts-then _ _ _ _ _ [] (c.args.byte ∷ []) c.in_ok-spill.ensures.writes
    (bytes_kept g.W.Device.calls c.spill.new.self _ refl done.works (c.args.byte ∷ []) refl c.push.ensures refl done.works)
