use Rattle.std.proofs.Common.{rules}
use Rattle.std.specs.Ordering.{is_lt}
use Rattle.std.proofs.lemmas.List.Sorted.{answers_always}
use Rattle.oas_reader.proofs.InOrder.{fronted_cmp}
use Rattle.oas_reader.proofs.accepting.ascend.Goals as goal

pub returns : goal.returns
returns c = c.is_sorted_by.ensures.cases (λ x y. is_lt (fronted_cmp x y)) (answers_always _ _ _ (λ f a r q k. search rules))
