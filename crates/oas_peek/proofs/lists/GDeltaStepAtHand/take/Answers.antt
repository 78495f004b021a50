use Rattle.std.proofs.Common.{◌≡◌, ◌/◌, arith}
use Rattle.std.specs.Prelude.{IsTrue}
use Rattle.oas_peek.proofs.ListLemmas.{short_step, long_step, not_one}
use Rattle.oas_peek.proofs.lists.GDeltaStepAtHand.take.Goals as goal
use Rattle.oas_peek.proofs.lists.GDeltaStepAtHand.take.Goals.{then-first-ne1, else-first-ne1}

pub returns-then-first-eq0 : goal.returns-then-first-eq0
returns-then-first-eq0 c = rw (c.from_numbers.ensures, c.note.ensures) (short_step c.in_ok-first.first c.if-first-eq0.true c.in_ok-first.ensures)

pub returns : goal.returns
returns c =
    let plain : IsTrue c.if-first-ne1.note → (c.in_ok-first.first / 2 ≡ 1 → ⊥) × (c.in_ok-second.second ≡ 1 → ⊥) =
    elim c.if-first-ne1.branch [
      | then-first-ne1 w ↦ λ now. (w.if-first-ne1.true, not_one c.in_ok-second.second (rw w.note-is at now))
      | else-first-ne1 w ↦ λ now. absurd (not_one (c.in_ok-first.first / 2) (rw w.note-is at now) w.if-first-ne1.false)
    ] in
    rw (c.from_numbers-2.ensures, c.note-2.ensures) (long_step c.in_ok-first.first c.in_ok-second.second c.if-first-ne1.note (omega (arith, c.if-first-eq0.false)) c.in_ok-first.ensures c.in_ok-second.ensures plain)
