use Rattle.oas_record.proofs.MagicLemmas.{Matched}
use Rattle.oas_record.proofs.heads.read_magic.Given as goal

abbrev pub invariant-loop-i : goal.invariant-loop-i
invariant-loop-i g l = Matched (g.S.Source.script l.fn.source) (g.S.Source.script l.source) l.i
