use Rattle.std.proofs.Common.{arith, refl, inr}
use Rattle.std.proofs.lemmas.Result.{err_from_is_err_and}
use Rattle.oas_reader.proofs.DrawLemmas.{is_passed}
use Rattle.oas_reader.proofs.JudgedDraws.{InCell, refused_number, refused_copy, allowed_draw, took_draw, sound_draw, number_fits, held_room}
use Rattle.oas_reader.proofs.taking.draw.Goals as goal

pub returns-in_err-number-clause-err : goal.returns-in_err-number-clause-err
returns-in_err-number-clause-err g c =
    let p = err_from_is_err_and c.from_residual.result c.from_residual.ensures.1 in
    let in_cell : InCell g.S.CellStore.store c.args.parts.now c.args.next.now c.args.kind.now c.in-Some.held c.step.new.self c.repeats-repeated.result =
    record { kind_is = c.requires.kind; held_is = c.in-Some.is; modal_is = c.step.ensures; repeats_is = c.repeats-repeated.ensures; sound = c.requires.sound } in
    rw (p.1, p.2) (inr (refused_number _ _ _ _ _ _ _ in_cell _ c.in_err-number.ensures.err))

pub returns-in_err-weight-clause-err : goal.returns-in_err-weight-clause-err
returns-in_err-weight-clause-err g c =
    let p = err_from_is_err_and c.from_residual-in_err-weight.result c.from_residual-in_err-weight.ensures.1 in
    let in_cell : InCell g.S.CellStore.store c.args.parts.now c.args.next.now c.args.kind.now c.in-Some.held c.step.new.self c.repeats-repeated.result =
    record { kind_is = c.requires.kind; held_is = c.in-Some.is; modal_is = c.step.ensures; repeats_is = c.repeats-repeated.ensures; sound = c.requires.sound } in
    rw (p.1, p.2) (refused_copy _ _ _ _ _ _ _ in_cell _ _ c.in_ok-number.ensures.ok.0 refl c.in_err-weight.ensures.err)

pub hold_copies-requires-clause-small : goal.hold_copies-requires-clause-small
hold_copies-requires-clause-small g c =
    let in_cell : InCell g.S.CellStore.store c.args.parts.now c.args.next.now c.args.kind.now c.in-Some.held c.step.new.self c.repeats-repeated.result =
    record { kind_is = c.requires.kind; held_is = c.in-Some.is; modal_is = c.step.ensures; repeats_is = c.repeats-repeated.ensures; sound = c.requires.sound } in
    let fits = number_fits _ _ _ _ _ _ _ in_cell _ c.in_ok-number.ensures.ok.0 refl in
    omega (arith, fits.0, c.args.parts.now.limits.few)

pub hold_copies-requires-clause-light : goal.hold_copies-requires-clause-light
hold_copies-requires-clause-light g c =
    let in_cell : InCell g.S.CellStore.store c.args.parts.now c.args.next.now c.args.kind.now c.in-Some.held c.step.new.self c.repeats-repeated.result =
    record { kind_is = c.requires.kind; held_is = c.in-Some.is; modal_is = c.step.ensures; repeats_is = c.repeats-repeated.ensures; sound = c.requires.sound } in
    let fits = number_fits _ _ _ _ _ _ _ in_cell _ c.in_ok-number.ensures.ok.0 refl in
    omega (arith, fits.1, c.args.parts.now.limits.light)

pub hold_copies-requires-clause-room : goal.hold_copies-requires-clause-room
hold_copies-requires-clause-room g c = omega
    (arith, held_room g.S.CellStore.store c.args.parts.now c.in-Some.held c.requires.sound (c.in-Some.is), c.args.parts.now.limits.few)

pub hold_copies-requires-clause-points : goal.hold_copies-requires-clause-points
hold_copies-requires-clause-points g c = (is_passed c.args.parts.now.limits c.args.parts.now.count c.args.parts.now.weight c.step.new.self c.args.kind.now c.repeats-repeated.result
    c.in_ok-number.ensures.ok.0).points

pub overflow_add-parts : goal.overflow_add-parts
overflow_add-parts g c =
    let in_cell : InCell g.S.CellStore.store c.args.parts.now c.args.next.now c.args.kind.now c.in-Some.held c.step.new.self c.repeats-repeated.result =
    record { kind_is = c.requires.kind; held_is = c.in-Some.is; modal_is = c.step.ensures; repeats_is = c.repeats-repeated.ensures; sound = c.requires.sound } in
    let fits = number_fits _ _ _ _ _ _ _ in_cell _ c.in_ok-number.ensures.ok.0 c.in_ok-number.ensures.ok.1 in
    omega (arith, fits.0, c.args.parts.now.limits.few)

pub overflow_add-parts-2 : goal.overflow_add-parts-2
overflow_add-parts-2 g c =
    let in_cell : InCell g.S.CellStore.store c.args.parts.now c.args.next.now c.args.kind.now c.in-Some.held c.step.new.self c.repeats-repeated.result =
    record { kind_is = c.requires.kind; held_is = c.in-Some.is; modal_is = c.step.ensures; repeats_is = c.repeats-repeated.ensures; sound = c.requires.sound } in
    let fits = number_fits _ _ _ _ _ _ _ in_cell _ c.in_ok-number.ensures.ok.0 refl in
    omega (arith, fits.1, c.in_ok-weight.ensures.weight, c.args.parts.now.limits.light)

pub returns-clause-reason : goal.returns-clause-reason
returns-clause-reason g c =
    let in_cell : InCell g.S.CellStore.store c.args.parts.now c.args.next.now c.args.kind.now c.in-Some.held c.step.new.self c.repeats-repeated.result =
    record { kind_is = c.requires.kind; held_is = c.in-Some.is; modal_is = c.step.ensures; repeats_is = c.repeats-repeated.ensures; sound = c.requires.sound } in
    allowed_draw _ _ _ _ _ _ _ in_cell _ c.in_ok-number.ensures.ok.0 refl c.in_ok-weight.ensures.fit

pub returns-clause-new : goal.returns-clause-new
returns-clause-new g c =
    let in_cell : InCell g.S.CellStore.store c.args.parts.now c.args.next.now c.args.kind.now c.in-Some.held c.step.new.self c.repeats-repeated.result =
    record { kind_is = c.requires.kind; held_is = c.in-Some.is; modal_is = c.step.ensures; repeats_is = c.repeats-repeated.ensures; sound = c.requires.sound } in
    took_draw _ _ _ _ _ _ _ in_cell _ _ _ c.in_ok-number.ensures.ok.0 c.in_ok-number.ensures.ok.1 c.in_ok-weight.ensures.weight c.in_ok-weight.ensures.held

pub returns-clause-sound : goal.returns-clause-sound
returns-clause-sound g c =
    let in_cell : InCell g.S.CellStore.store c.args.parts.now c.args.next.now c.args.kind.now c.in-Some.held c.step.new.self c.repeats-repeated.result =
    record { kind_is = c.requires.kind; held_is = c.in-Some.is; modal_is = c.step.ensures; repeats_is = c.repeats-repeated.ensures; sound = c.requires.sound } in
    sound_draw _ _ _ _ _ _ _ in_cell _ _ _ c.in_ok-number.ensures.ok.0 c.in_ok-number.ensures.ok.1 c.in_ok-weight.ensures.weight c.in_ok-number.ensures.near c.in_ok-weight.ensures.held
