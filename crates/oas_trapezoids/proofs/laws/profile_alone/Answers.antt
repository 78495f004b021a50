use Rattle.std.proofs.Common.{refl}
use Rattle.oas_trapezoids.specs.Tracked.{fresh}
use Rattle.oas_trapezoids.proofs.LawLemmas.{all_plain}
use Rattle.oas_trapezoids.proofs.laws.profile_alone.Goals as goal

pub returns : goal.returns
returns c = λ rs. all_plain fresh rs refl
