use Rattle.std.proofs.Common.{refl}
use Rattle.oas_drawing.proofs.Copies.{one_more}
use Rattle.oas_drawing.proofs.laws.one_more_copy.Goals as goal

pub returns : goal.returns
returns c = record { none = λ m r. refl; more = one_more; all = λ r before. refl }
