use Rattle.std.proofs.Common.{List, ap}
use Rattle.oas_elements.specs.Contents.{Cell}
use Rattle.oas_layout.specs.Held.{contents_of}
use Rattle.oas_layout.specs.Laws.HeldLaws.{cells_are}
use Rattle.oas_layout.proofs.layout.Layout.of.Goals as goal

pub returns : goal.returns
returns c cs sound is = ap (λ (ds : List Cell). contents_of c.args.unit c.args.limits c.args.profile ds) (cells_are _ cs sound is)
