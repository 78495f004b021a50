use Rattle.std.proofs.lemmas.List.Sorted.{IsPermutation-trans}
use Rattle.oas_layout.proofs.sorting.arrange.Goals as goal

pub loop-place-preserved : goal.loop-place-preserved
loop-place-preserved c = IsPermutation-trans _ _ _ c.loop-place.invariant c.exchange.ensures
