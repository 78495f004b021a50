use Rattle.std.proofs.Common.{refl}
use Rattle.oas_layout.proofs.FinishLemmas.{holds, accepted, refused, means}
use Rattle.oas_layout.proofs.finishing.finish_layout.Goals as goal

pub returns-in-Ok-clause-accepted : goal.returns-in-Ok-clause-accepted
returns-in-Ok-clause-accepted g c = λ rs h.
    let over = c.in_ok-taken.ensures.ok in
    accepted g.P.KeptBy.profile c.args.reader c.in_ok-taken.taken over rs h (c.in-Ok.ensures.accepted _ (holds g.P.KeptBy.profile c.args.reader c.in_ok-taken.taken over rs h))

pub returns-in-Ok-clause-layout : goal.returns-in-Ok-clause-layout
returns-in-Ok-clause-layout g c = λ rs h.
    let over = c.in_ok-taken.ensures.ok in
    means g.P.KeptBy.profile c.args.reader c.in_ok-taken.taken over rs h c.in-Ok.layout (c.in-Ok.ensures.layout _ (holds g.P.KeptBy.profile c.args.reader c.in_ok-taken.taken over rs h))

pub returns-in-Err-clause-refused : goal.returns-in-Err-clause-refused
returns-in-Err-clause-refused g c = λ rs h.
    let over = c.in_ok-taken.ensures.ok in (
      refl,
      refused g.P.KeptBy.profile c.args.reader c.in_ok-taken.taken over rs h c.in-Err.why (c.in-Err.ensures.refused _ (holds g.P.KeptBy.profile c.args.reader c.in_ok-taken.taken over rs h)),
    )
