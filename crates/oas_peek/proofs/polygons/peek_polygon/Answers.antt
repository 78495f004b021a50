use Rattle.std.proofs.Common.{ap}
use Rattle.oas_peek.proofs.PolygonLemmas.{is_peeked_polygon}
use Rattle.oas_peek.proofs.polygons.peek_polygon.Goals as goal

pub returns : goal.returns
returns c =
    rw (c.is_shortest.ensures, c.left.ensures)
    (is_peeked_polygon c.args.bytes.now c.in_ok-polygon.polygon c.of-front.result c.byte.new.self c.take_polygon.new.front
    (ap (λ l. l.bytes) c.of-front.ensures) (rw c.if-branch-ne-POLYGON.false at c.in_ok-byte.ensures) c.in_ok-polygon.ensures)
