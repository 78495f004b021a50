use Rattle.std.proofs.Common.{rules, arith}
use Rattle.oascanon_c.proofs.FillingLemmas.{written}
use Rattle.oascanon_c.proofs.buffers.put_file.Goals as goal

pub returns : goal.returns
returns c =
    written c.new-filler.result c.put_all.new.self _ _ _ c.answer.result c.new-filler.ensures.none c.answer.ensures (λ name. search rules)
    (omega arith) c.put_all.result c.put_all.ensures
