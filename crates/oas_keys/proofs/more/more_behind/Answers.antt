use Rattle.std.proofs.Common.{◌∙◌, ap, arith}
use Rattle.oas_keys.specs.Numbers.{signed_classes}
use Rattle.oas_keys.specs.Reading.{more_with}
use Rattle.oas_keys.proofs.MoreLemmas.{table_at}
use Rattle.oas_keys.proofs.more.more_behind.Goals as goal

pub returns : goal.returns
returns c = c.from-2.ensures ∙ table_at c.from.result (omega (arith, c.from.ensures, c.ranges.first.fits)) ∙ ap (more_with signed_classes 1) c.from.ensures
