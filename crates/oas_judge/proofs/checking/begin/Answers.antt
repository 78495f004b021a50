use Rattle.std.proofs.lemmas.Result.{err_from_is_err_and}
use Rattle.std.proofs.Common.{◌∙◌}
use Rattle.oas_writing.specs.Deciding.{ForFirst}
use Rattle.oas_judge.proofs.RecordSteps.{as_kept, wants_memory}
use Rattle.oas_judge.proofs.checking.begin.Goals as goal

pub returns-in_err-head-clause-refused : goal.returns-in_err-head-clause-refused
returns-in_err-head-clause-refused g c =
    let p = err_from_is_err_and c.from_residual.result c.from_residual.ensures.1 in
    rw (p.1, p.2) (λ limits. as_kept (c.in_err-head.ensures.refused limits))

pub returns-then-not-has_begun-clause-refused : goal.returns-then-not-has_begun-clause-refused
returns-then-not-has_begun-clause-refused g c limits =
    let begun = c.in_ok-head.ensures.begun in
    wants_memory limits _ _ begun.start c.at-at.result begun.takes (λ fresh. ForFirst (c.at-at.ensures ∙ fresh))
