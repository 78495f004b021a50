use Rattle.std.proofs.Common.{sym, ap, ◌∙◌}
use Rattle.std.proofs.lemmas.Result.{err_from_is_err_and}
use Rattle.oas_num.specs.Script.{Script}
use Rattle.oas_judge.proofs.parts.next_part.Goals as goal

pub returns-in_err-next_at_hand : goal.returns-in_err-next_at_hand
returns-in_err-next_at_hand g c =
    let p = err_from_is_err_and c.from_residual.result c.from_residual.ensures.1 in
    rw (p.1, p.2) (λ profile now first judge b m. c.in_err-next_at_hand.ensures profile now first judge b m)

pub read_part-requires : goal.read_part-requires
read_part-requires g c =
    let h = rw c.if-branch.false at c.in_ok-next_at_hand.ensures in
    c.requires ∙ ap (λ (s : Script). s.given) (sym h.0)

pub returns-then-branch : goal.returns-then-branch
returns-then-branch g c = rw c.if-branch.true at c.in_ok-next_at_hand.ensures

pub returns : goal.returns
returns g c =
    let h = rw c.if-branch.false at c.in_ok-next_at_hand.ensures in
    rw (sym h.0, sym h.1, sym h.2) c.read_part.ensures
