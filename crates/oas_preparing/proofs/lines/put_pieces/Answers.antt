use Rattle.std.proofs.Common.{ℕ, List, Bor}
use Rattle.std.proofs.lemmas.Result.{err_from_is_err_and}
use Rattle.oas_num.proofs.PuttingLemmas.{item_put, item_fails}
use Rattle.oas_preparing.proofs.lines.put_pieces.Goals as goal

pub returns-in_err-put_all : goal.returns-in_err-put_all
returns-in_err-put_all g c =
    let p = err_from_is_err_and c.from_residual.result c.from_residual.ensures.1 in
    rw p.1 (item_fails (λ (piece : Bor (List ℕ)). piece.now) c.args.pieces.now c.loop-piece.piece-index _ c.loop-piece-test.true c.loop-piece.invariant c.in_err-put_all.ensures)

pub loop-piece-preserved : goal.loop-piece-preserved
loop-piece-preserved g c =
    item_put (λ (piece : Bor (List ℕ)). piece.now) c.args.pieces.now c.loop-piece.piece-index _ c.loop-piece-test.true c.loop-piece.invariant c.in_ok-put_all.ensures
