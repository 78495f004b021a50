use Rattle.std.proofs.Common.{ℕ, inl, inr, ap, ◌∙◌}
use Rattle.std.proofs.lemmas.Result.{err_from_is_err_and}
use Rattle.oas_num.specs.declared.refusals.Why.TheVariants as why
use Rattle.oas_narrow.specs.WideWhy.TheVariants as wide
use Rattle.oas_prepare.specs.Inside.{Unread, NotTaken, EndInside, BlockInside}
use Rattle.oas_prepare.specs.Places.{at_file}
use Rattle.oas_prepare.proofs.inside.take_inside.Goals as goal

pub returns-in_err-take_next : goal.returns-in_err-take_next
returns-in_err-take_next g c =
    let p = err_from_is_err_and c.from_residual.result c.from_residual.ensures.1 in
    rw (p.1, p.2) (elim c.in_err-take_next.ensures [ inl f ↦ Unread f | inr o ↦ NotTaken o ])

pub returns-in-End : goal.returns-in-End
returns-in-End g c =
    let ended = rw c.in-End.is at c.in_ok-take_next.ensures in
    EndInside c.in-End.field-0 (c.stopped.ensures ∙ ap (λ (n : ℕ). at_file n (wide.Profile (why.OutOfPlace 2))) c.at-at.ensures) ended.0

pub returns-in-Block : goal.returns-in-Block
returns-in-Block g c =
    let begun = rw c.in-Block.is at c.in_ok-take_next.ensures in
    BlockInside c.in-Block.field-0 (c.stopped-in-Block.ensures ∙ ap (λ (n : ℕ). at_file n wide.CblockNested) c.at-at.ensures) begun.0
