use Rattle.std.proofs.Common.{◌∙◌, Some, sym, ap}
use Rattle.std.specs.Ordering.{nat_cmp}
use Rattle.std.specs.Cmp.Lexicographic.{slice_cmp, nat_list_cmp_total}
use Rattle.std.proofs.lemmas.Map.Lookups.{exact_bytes}
use Rattle.oas_difference.proofs.Pairs.{least_before, least_after, least_both}
use Rattle.oas_difference.proofs.cells.take_least.Goals as goal

pub returns-in_ok-name-in-Less-clause-pair : goal.returns-in_ok-name-in-Less-clause-pair
returns-in_ok-name-in-Less-clause-pair c =
    (least_before (slice_cmp nat_cmp) nat_list_cmp_total exact_bytes _ _ c.requires.before c.requires.after _ _ c.in_ok-name-in-Less.ensures.first
    (sym c.in_ok-first.ensures ∙ ap Some c.in-Less.is)).listed

pub returns-in_ok-name-in-Less-clause-before : goal.returns-in_ok-name-in-Less-clause-before
returns-in_ok-name-in-Less-clause-before c =
    (least_before (slice_cmp nat_cmp) nat_list_cmp_total exact_bytes _ _ c.requires.before c.requires.after _ _ c.in_ok-name-in-Less.ensures.first
    (sym c.in_ok-first.ensures ∙ ap Some c.in-Less.is)).before

pub returns-in_ok-elements_after-in-Equal-clause-pair : goal.returns-in_ok-elements_after-in-Equal-clause-pair
returns-in_ok-elements_after-in-Equal-clause-pair c =
    (least_both (slice_cmp nat_cmp) nat_list_cmp_total exact_bytes _ _ c.requires.before c.requires.after _ _ _ _ c.in_ok-name-in-Equal.ensures.first
    c.in_ok-elements_after-in-Equal.ensures.first (sym c.in_ok-first.ensures ∙ ap Some c.in-Equal.is)).listed

pub returns-in_ok-elements_after-in-Equal-clause-before : goal.returns-in_ok-elements_after-in-Equal-clause-before
returns-in_ok-elements_after-in-Equal-clause-before c =
    (least_both (slice_cmp nat_cmp) nat_list_cmp_total exact_bytes _ _ c.requires.before c.requires.after _ _ _ _ c.in_ok-name-in-Equal.ensures.first
    c.in_ok-elements_after-in-Equal.ensures.first (sym c.in_ok-first.ensures ∙ ap Some c.in-Equal.is)).before

pub returns-in_ok-elements_after-in-Equal-clause-after : goal.returns-in_ok-elements_after-in-Equal-clause-after
returns-in_ok-elements_after-in-Equal-clause-after c =
    (least_both (slice_cmp nat_cmp) nat_list_cmp_total exact_bytes _ _ c.requires.before c.requires.after _ _ _ _ c.in_ok-name-in-Equal.ensures.first
    c.in_ok-elements_after-in-Equal.ensures.first (sym c.in_ok-first.ensures ∙ ap Some c.in-Equal.is)).after

pub returns-in_ok-name-in-Greater-clause-pair : goal.returns-in_ok-name-in-Greater-clause-pair
returns-in_ok-name-in-Greater-clause-pair c =
    (least_after (slice_cmp nat_cmp) nat_list_cmp_total exact_bytes _ _ c.requires.before c.requires.after _ _ c.in_ok-name-in-Greater.ensures.first
    (sym c.in_ok-first.ensures ∙ ap Some c.in-Greater.is)).listed

pub returns-in_ok-name-in-Greater-clause-after : goal.returns-in_ok-name-in-Greater-clause-after
returns-in_ok-name-in-Greater-clause-after c =
    (least_after (slice_cmp nat_cmp) nat_list_cmp_total exact_bytes _ _ c.requires.before c.requires.after _ _ c.in_ok-name-in-Greater.ensures.first
    (sym c.in_ok-first.ensures ∙ ap Some c.in-Greater.is)).after
