use Rattle.std.proofs.Common.{refl}
use Rattle.oas_difference.proofs.LimitLemmas.{passed, dropped, handed_end, handed_other, broke}
use Rattle.oas_difference.proofs.limiting.LimitedSink.put.Goals as goal

pub returns-then-self-eq0 : goal.returns-then-self-eq0
returns-then-self-eq0 g c =
    passed _ _ c.args.self.now _ _ c.if-self.false (dropped _ _ c.args.self.now _ c.args.byte c.if-self-eq0.true refl)

pub returns-then-byte-eq10 : goal.returns-then-byte-eq10
returns-then-byte-eq10 g c =
    passed _ _ c.args.self.now _ _ c.if-self.false (handed_end _ _ c.args.self.now _ c.args.byte refl c.if-self-eq0.false c.in-Ok.ensures c.if-byte-eq10.true refl refl refl)

pub returns-else-byte-eq10 : goal.returns-else-byte-eq10
returns-else-byte-eq10 g c =
    passed _ _ c.args.self.now _ _ c.if-self.false (handed_other _ _ c.args.self.now _ c.args.byte refl c.if-self-eq0.false c.in-Ok.ensures c.if-byte-eq10.false refl refl refl)

pub returns-in-Err : goal.returns-in-Err
returns-in-Err g c =
    broke _ _ c.args.self.now _ c.args.byte refl c.if-self-eq0.false c.if-self.false c.in-Err.ensures refl
