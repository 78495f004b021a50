use Rattle.std.proofs.Common.{◌<◌, ◌^◌, [], ◌∷◌, length, length-append, rules, arith}
use Rattle.oascanon_c.proofs.FillingLemmas.{written}
use Rattle.oascanon_c.proofs.reports.put_text.Goals as goal

pub returns : goal.returns
returns c =
    let short : length c.args.text.now < 2 ^ 63 = search rules in
    written c.new-filler.result c.put_line.new.sink _ _ _ c.answer.result c.new-filler.ensures.none c.answer.ensures (λ name. search rules)
    (omega (arith, short, length-append c.args.text.now (10 ∷ []))) c.put_line.result c.put_line.ensures
