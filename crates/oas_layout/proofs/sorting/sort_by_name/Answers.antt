use Rattle.std.proofs.Common.{rules, ◌≡◌, ◌++◌, ◌∙◌, take, drop, length, ap, subst, arith}
use Rattle.std.proofs.Math.Seq.{take-append_seam}
use Rattle.std.specs.List.Sorted.{IsPermutation}
use Rattle.std.specs.Ordering.{is_lt}
use Rattle.std.specs.Cmp.Lexicographic.{nat_list_cmp_total}
use Rattle.std.proofs.lemmas.List.Sorted.{ranks_by, answers_always, IsPermutation-trans, length_permutation}
use Rattle.oas_elements.proofs.Sealed.{name_cmp}
use Rattle.oas_layout.proofs.sorting.sort_by_name.Goals as goal

pub returns-clause-ascending : goal.returns-clause-ascending
returns-clause-ascending c =
    c.sort_unstable_by.ensures.sorted (λ x y. is_lt (name_cmp x.0 y.0)) (ranks_by nat_list_cmp_total (λ r. r.0)) (answers_always _ _ _ (λ f a r q k. search rules))

pub returns-clause-same : goal.returns-clause-same
returns-clause-same c =
    let runs = c.arrange_by_name.new.runs in
    let rest = drop (length runs) c.args.runs.now.items in
    let many : c.args.runs.now.len ≡ length runs = omega (arith, length_permutation _ _ c.arrange_by_name.ensures, c.args.runs.now.ok) in
    let whole : take c.args.runs.now.len (runs ++ rest) ≡ runs = ap (λ n. take n (runs ++ rest)) many ∙ take-append_seam runs rest in
    IsPermutation-trans _ _ _ (subst (λ rs. IsPermutation rs runs) c.deref_mut.ensures.value c.arrange_by_name.ensures) (subst (λ rs. IsPermutation rs c.sort_unstable_by.new.self.items) whole c.sort_unstable_by.ensures.permutation)
