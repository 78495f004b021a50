use Rattle.std.proofs.Common.{◌≡◌, ℕ, ◌*◌, ◌<◌, None, ap, subst, ◌∙◌, arith}
use Rattle.std.proofs.lemmas.Result.{err_from_is_err_and}
use Rattle.oas_shape.specs.Steps.{still}
use Rattle.oas_drawing.specs.Drawing.{drawn_by, number_if}
use Rattle.oas_drawing.specs.Reasons.{weight_if, fault_of}
use Rattle.oas_reader.specs.Stores.{Draws}
use Rattle.oas_reader.specs.Copying.{place_offset, first_stacks}
use Rattle.oas_reader.proofs.CopyLemmas.{here, draws_next, draws_all, room_next, fit_next, fit_all, fault_at, weight_next, weight_all, weight_room}
use Rattle.oas_reader.proofs.copying.hold_copies.Goals as goal

pub draw_copy-requires-clause-below : goal.draw_copy-requires-clause-below
draw_copy-requires-clause-below g c = (here c.args.modal.now c.args.repeated c.places-places.result c.places-places.ensures).within c.loop-j.j c.loop-j-test.true

pub draw_copy-requires-clause-small : goal.draw_copy-requires-clause-small
draw_copy-requires-clause-small g c = omega (arith, (here c.args.modal.now c.args.repeated c.places-places.result c.places-places.ensures).within c.loop-j.j c.loop-j-test.true, c.requires.small)

pub returns-in_err-one-clause-err : goal.returns-in_err-one-clause-err
returns-in_err-one-clause-err g c =
    let p = err_from_is_err_and c.from_residual.result c.from_residual.ensures.1 in
    rw (p.1, p.2) (fault_at c.args.modal.now c.args.kind.now c.args.repeated c.places-places.result (number_if c.args.repeated c.args.modal.now.repetition) c.loop-j.j _ (here c.args.modal.now c.args.repeated c.places-places.result c.places-places.ensures) c.loop-j-test.true c.in_err-one.ensures.err)

pub overflow_mul-weight : goal.overflow_mul-weight
overflow_mul-weight g c =
    omega (
      arith,
      weight_room c.args.modal.now c.args.kind.now c.args.repeated c.places-places.result (number_if c.args.repeated c.args.modal.now.repetition) c.loop-j.j c.in_ok-one.one c.loop-j.weight (here c.args.modal.now c.args.repeated c.places-places.result c.places-places.ensures) c.in_ok-one.ensures.weight c.loop-j.invariant.weight c.loop-j-test.true c.requires.light,
    )

pub overflow_add-weight : goal.overflow_add-weight
overflow_add-weight g c =
    omega (
      arith,
      weight_room c.args.modal.now c.args.kind.now c.args.repeated c.places-places.result (number_if c.args.repeated c.args.modal.now.repetition) c.loop-j.j c.in_ok-one.one c.loop-j.weight (here c.args.modal.now c.args.repeated c.places-places.result c.places-places.ensures) c.in_ok-one.ensures.weight c.loop-j.invariant.weight c.loop-j-test.true c.requires.light,
    )

pub draw_copy-requires-clause-room : goal.draw_copy-requires-clause-room
draw_copy-requires-clause-room g c =
    room_next c.args.modal.now c.args.kind.now c.args.repeated c.places-places.result g.S.CellStore.store (number_if c.args.repeated c.args.modal.now.repetition) c.loop-j.j c.args.held.now c.loop-j.held (here c.args.modal.now c.args.repeated c.places-places.result c.places-places.ensures) c.loop-j-test.true c.loop-j.invariant.held c.requires.room c.requires.small

pub draw_copy-requires-clause-some : goal.draw_copy-requires-clause-some
draw_copy-requires-clause-some g c = (here c.args.modal.now c.args.repeated c.places-places.result c.places-places.ensures).some

pub loop-j-preserved : goal.loop-j-preserved
loop-j-preserved g c = record {
  weight = weight_next c.args.modal.now c.args.kind.now c.args.repeated c.places-places.result c.loop-j.j c.in_ok-one.one c.loop-j.weight c.in_ok-one.ensures.weight c.loop-j.invariant.weight;
  held = draws_next c.args.modal.now c.args.kind.now c.args.repeated c.places-places.result g.S.CellStore.store c.loop-j.j c.args.held.now c.loop-j.held _ c.loop-j.invariant.held c.in_ok-one.ensures.ok;
  fit = fit_next c.args.modal.now c.args.kind.now c.args.repeated c.places-places.result c.loop-j.j c.loop-j.invariant.fit c.in_ok-one.ensures.fits;
}

pub returns-clause-weight : goal.returns-clause-weight
returns-clause-weight g c =
    let last : c.loop-j.j ≡ c.places-places.result.number = omega (arith, c.loop-j-test.false, c.loop-j.auto.j-end) in
    c.loop-j.invariant.weight
    ∙ ap (λ (n : ℕ). n * (c.places-places.result.copies * weight_if (drawn_by c.args.modal.now c.args.kind.now still))) last
    ∙ weight_all c.args.modal.now c.args.kind.now c.args.repeated c.places-places.result (number_if c.args.repeated c.args.modal.now.repetition) (here c.args.modal.now c.args.repeated c.places-places.result c.places-places.ensures)

pub returns-clause-held : goal.returns-clause-held
returns-clause-held g c =
    let last : c.loop-j.j ≡ c.places-places.result.number = omega (arith, c.loop-j-test.false, c.loop-j.auto.j-end) in
    draws_all c.args.modal.now c.args.kind.now c.args.repeated c.places-places.result g.S.CellStore.store g.met.S.CellStore.alike (number_if c.args.repeated c.args.modal.now.repetition) c.args.held.now c.loop-j.held (here c.args.modal.now c.args.repeated c.places-places.result c.places-places.ensures)
    (subst (λ (n : ℕ). Draws g.S.CellStore.store c.args.held.now (first_stacks c.args.modal.now c.args.kind.now c.args.repeated c.places-places.result n) c.loop-j.held) last c.loop-j.invariant.held)

pub returns-clause-fit : goal.returns-clause-fit
returns-clause-fit g c =
    let last : c.loop-j.j ≡ c.places-places.result.number = omega (arith, c.loop-j-test.false, c.loop-j.auto.j-end) in
    fit_all c.args.modal.now c.args.kind.now c.args.repeated c.places-places.result (number_if c.args.repeated c.args.modal.now.repetition) (here c.args.modal.now c.args.repeated c.places-places.result c.places-places.ensures)
    (subst (λ (n : ℕ). (j : ℕ) → j < n → fault_of (drawn_by c.args.modal.now c.args.kind.now (place_offset c.args.modal.now c.args.repeated c.places-places.result j)) ≡ None) last c.loop-j.invariant.fit)
