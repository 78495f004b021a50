use Rattle.std.proofs.Common.{ap}
use Rattle.oas_peek.proofs.PathLemmas.{is_peeked_path}
use Rattle.oas_peek.proofs.paths.peek_path.Goals as goal

pub returns : goal.returns
returns c =
    rw (c.is_shortest.ensures, c.left.ensures)
    (is_peeked_path c.args.bytes.now c.in_ok-path.path c.of-front.result c.byte.new.self c.take_path.new.front
    (ap (λ l. l.bytes) c.of-front.ensures) (rw c.if-branch-ne-PATH.false at c.in_ok-byte.ensures) c.in_ok-path.ensures)
