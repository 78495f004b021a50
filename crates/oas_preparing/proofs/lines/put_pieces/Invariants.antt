use Rattle.std.proofs.Common.{drop, flat_map}
use Rattle.oas_num.proofs.PuttingLemmas.{PutSoFar}
use Rattle.oas_preparing.proofs.lines.put_pieces.Given as goal

abbrev pub invariant-loop-piece : goal.invariant-loop-piece
invariant-loop-piece g l =
    PutSoFar g.K.Sink.given g.K.Sink.failures (flat_map (λ piece. piece.now) l.pieces) (flat_map (λ piece. piece.now) (drop l.piece-index l.pieces)) l.fn.told l.told
