use Rattle.std.proofs.Common.{refl}
use Rattle.oas_record.specs.Info.{has}
use Rattle.oas_peek.proofs.FrontLemmas.{spot_takes}
use Rattle.oas_peek.proofs.rectangles.take_spot.Goals as goal

pub returns : goal.returns
returns c = (spot_takes (has c.args.info 16) (has c.args.info 8) (has c.args.info 4) c.requires.1 c.in_ok-x.ensures c.in_ok-y.ensures, refl)
