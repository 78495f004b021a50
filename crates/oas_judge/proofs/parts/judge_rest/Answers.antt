use Rattle.std.proofs.lemmas.Result.{err_from_is_err_and}
use Rattle.oas_judge.proofs.RecordSteps.{stops}
use Rattle.oas_judge.proofs.parts.judge_rest.Goals as goal

pub returns-in_err-part : goal.returns-in_err-part
returns-in_err-part g c =
    let p = err_from_is_err_and c.from_residual.result c.from_residual.ensures.1 in
    rw (p.1, p.2) (λ profile now first judge b m. c.in_err-part.ensures profile now first judge b (c.parts.invariant.seen profile now first judge b m))

pub parts-preserved : goal.parts-preserved
parts-preserved g c =
    let more = rw c.in-Judged.is at c.in_ok-part.ensures in
    record { place = c.at-at-in-Judged.ensures; seen = λ profile now first judge b m. (more.1 profile now first judge b (c.parts.invariant.seen profile now first judge b m)).0 }

pub returns-in_default : goal.returns-in_default
returns-in_default g c = λ profile now first judge b m.
    stops g.C.CellStore.store profile c.args.head.now first b _ _ _ _ _ _ c.in_ok-part.part c.parts.at c.parts.invariant.place c.in_ok-part.ensures (c.parts.invariant.seen profile now first judge b m)

pub returns-in_default-2 : goal.returns-in_default-2
returns-in_default-2 g c = λ profile now first judge b m.
    stops g.C.CellStore.store profile c.args.head.now first b _ _ _ _ _ _ c.in_ok-part.part c.parts.at c.parts.invariant.place c.in_ok-part.ensures (c.parts.invariant.seen profile now first judge b m)
