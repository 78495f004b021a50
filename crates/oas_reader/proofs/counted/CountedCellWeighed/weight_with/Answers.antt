use Rattle.std.proofs.Common.{◌∙◌}
use Rattle.oas_reader.proofs.WeighLemmas.{counted_known}
use Rattle.oas_reader.proofs.counted.CountedCellWeighed.weight_with.Goals as goal

pub returns : goal.returns
returns c = λ ds h. c.weight.ensures ∙ counted_known c.args.names.now.named c.args.strings.now.named c.args.self.now ds c.requires h
