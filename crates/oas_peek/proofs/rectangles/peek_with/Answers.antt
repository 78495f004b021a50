use Rattle.std.proofs.Common.{ap}
use Rattle.oas_peek.proofs.RectangleLemmas.{is_peeked}
use Rattle.oas_peek.proofs.rectangles.peek_with.Goals as goal

pub returns : goal.returns
returns c =
    rw (c.is_shortest.ensures, c.left.ensures, c.note.ensures)
    (is_peeked c.args.bytes.now c.args.info c.in_ok-rectangle.rectangle c.of-front.result c.byte.new.self c.byte-else-branch-ne-RECTANGLE.new.self c.take_fields.new.front
    (ap (λ l. l.bytes) c.of-front.ensures) (rw c.if-branch-ne-RECTANGLE.false at c.in_ok-byte.ensures) (rw c.if-branch-info.false at c.in_ok-byte-2.ensures) c.requires c.in_ok-rectangle.ensures)
