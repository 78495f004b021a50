use Rattle.std.proofs.Common.{sym, ap, ◌∙◌}
use Rattle.oas_num.specs.Script.{Script}
use Rattle.oas_judge.proofs.records.next_at_hand.Goals as goal

pub next_record-requires : goal.next_record-requires
next_record-requires g c =
    let h = rw c.if-branch.false at c.in_ok-next_of_kind.ensures in
    c.requires ∙ ap (λ (s : Script). s.given) (sym h.0)

pub returns : goal.returns
returns g c =
    let h = rw c.if-branch.false at c.in_ok-next_of_kind.ensures in
    rw (sym h.0, sym h.1, sym h.2) c.next_record.ensures
