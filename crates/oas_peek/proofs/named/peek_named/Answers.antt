use Rattle.std.proofs.Common.{ap, arith}
use Rattle.oas_peek.proofs.NamedLemmas.{is_peeked_named}
use Rattle.oas_peek.proofs.named.peek_named.Goals as goal
use Rattle.oas_peek.proofs.named.peek_named.Goals.{in-17+in_ok-element-in-17, in-19+in_ok-element-in-19}

pub returns : goal.returns
returns c =
    rw (c.is_shortest.ensures, c.left.ensures)
    (elim c.match-branch-2.branch [
      | in-17+in_ok-element-in-17 w ↦ rw (w.element-is, w.front-is)
          (is_peeked_named c.args.bytes.now 17 w.in_ok-element-in-17.element c.of-front.result c.byte.new.self w.take_placement.new.front (ap (λ l. l.bytes) c.of-front.ensures) (omega arith)
          (rw w.in-17.is at c.in_ok-byte.ensures) w.in_ok-element-in-17.ensures (rw w.element-is at (c.is_named.ensures.0 c.if-not-is_named.false)))
      | in-19+in_ok-element-in-19 w ↦ rw (w.element-is, w.front-is)
          (is_peeked_named c.args.bytes.now 19 w.in_ok-element-in-19.element c.of-front.result c.byte.new.self w.take_text.new.front (ap (λ l. l.bytes) c.of-front.ensures) (omega arith)
          (rw w.in-19.is at c.in_ok-byte.ensures) w.in_ok-element-in-19.ensures (rw w.element-is at (c.is_named.ensures.0 c.if-not-is_named.false)))
    ])
