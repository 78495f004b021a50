use Rattle.std.proofs.Common.{sym, ap, ◌∙◌}
use Rattle.oas_num.specs.Script.{Script}
use Rattle.oas_judge.proofs.records.next_rectangle.Goals as goal

pub next_partial_rectangle-requires : goal.next_partial_rectangle-requires
next_partial_rectangle-requires g c =
    let h = rw c.if-branch.false at c.in_ok-next_full_rectangle.ensures in
    c.requires ∙ ap (λ (s : Script). s.given) (sym h.0)

pub returns : goal.returns
returns g c =
    let h = rw c.if-branch.false at c.in_ok-next_full_rectangle.ensures in
    rw (sym h.0, sym h.1, sym h.2) c.next_partial_rectangle.ensures
