use Rattle.oas_record.specs.Info.{has}
use Rattle.oas_record.specs.Kinds.{number}
use Rattle.oas_record.specs.Trees.{there}
use Rattle.oas_peek.proofs.FrontLemmas.{pair_takes}
use Rattle.oas_peek.proofs.rectangles.take_layers.Goals as goal

pub returns : goal.returns
returns c = pair_takes (λ _. there (has c.args.info 2) number) c.in_ok-layer.ensures c.in_ok-datatype.ensures
