use Rattle.std.proofs.Common.{rules, ◌≡◌, ◌∙◌, ap, subst}
use Rattle.std.specs.List.{IsAllAdjacentAnswer}
use Rattle.std.specs.Ordering.{is_lt}
use Rattle.std.specs.Cmp.Lexicographic.{nat_list_cmp_total}
use Rattle.std.proofs.lemmas.List.Sorted.{IsPermutation-sym, IsPermutation-trans, ranks_by, answers_always}
use Rattle.oas_reader.specs.Meaning.{has_twice}
use Rattle.oas_reader.proofs.InOrder.{fronted, fronted_cmp, none_twice, answered}
use Rattle.oas_reader.proofs.accepting.name_again.Goals as goal

pub returns-then-ascend-clause-twice : goal.returns-then-ascend-clause-twice
returns-then-ascend-clause-twice g c =
    let there = c.sort_unstable.ensures.permutation in
    none_twice c.in_ok-all.all.items c.sort_unstable.new.self.items there (IsPermutation-sym _ _ there)
    (subst (λ b. IsAllAdjacentAnswer (λ x y b. b ≡ is_lt (fronted_cmp x y)) c.sort_unstable.new.self.items b) c.if-ascend.true (rw c.deref.ensures.value at c.ascend.ensures)) ∙ ap has_twice c.in_ok-all.ensures.names

pub returns-clause-twice : goal.returns-clause-twice
returns-clause-twice g c =
    let up = c.sort_unstable_by.ensures.sorted (λ x y. is_lt (fronted_cmp x y)) (ranks_by nat_list_cmp_total fronted) (answers_always _ _ _ (λ f a r q k. search rules)) in
    answered c.in_ok-all.all.items c.sort_unstable_by.new.self.items c.ascend-2.result (IsPermutation-trans _ _ _ c.sort_unstable.ensures.permutation c.sort_unstable_by.ensures.permutation) up
    (rw c.deref-2.ensures.value at c.ascend-2.ensures) ∙ ap has_twice c.in_ok-all.ensures.names
