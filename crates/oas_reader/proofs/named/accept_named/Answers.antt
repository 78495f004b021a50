use Rattle.std.proofs.Common.{◌≡◌, false, rules, refl, sym, subst, arith, inl}
use Rattle.std.specs.Prelude.{None}
use Rattle.oas_peek.specs.Named.{named_record}
use Rattle.oas_drawing.specs.Modal.{ModalState}
use Rattle.oas_drawing.specs.Reasons.{kind_reason}
use Rattle.oas_drawing.specs.Named.{named_by, named_kind, drawn_once}
use Rattle.oas_reader.proofs.JudgedDraws.{held_room}
use Rattle.oas_reader.proofs.OnceLemmas.{named_in_cell, named_allowed, weighs_so_far, took_once, sound_once}
use Rattle.oas_reader.proofs.named.accept_named.Goals as goal

pub returns-then-is_err-clause-err : goal.returns-then-is_err-clause-err
returns-then-is_err-clause-err g c =
    let checked = c.in_ok-check_named.ensures in
    inl (refl, inl (named_allowed g.S.CellStore.store c.args.parts.now c.args.next.now c.in-Some.held c.set_fields.new.self c.in-Some.is c.set_fields.ensures c.requires.sound checked.reason checked.fits))

pub draw_once-requires-clause-room : goal.draw_once-requires-clause-room
draw_once-requires-clause-room g c = omega (arith, held_room g.S.CellStore.store c.args.parts.now c.in-Some.held c.requires.sound c.in-Some.is, c.args.parts.now.limits.few)

pub returns-in-Err-clause-err : goal.returns-in-Err-clause-err
returns-in-Err-clause-err g c =
    let checked = c.in_ok-check_named.ensures in
    inl (refl, inl (named_allowed g.S.CellStore.store c.args.parts.now c.args.next.now c.in-Some.held c.set_fields.new.self c.in-Some.is c.set_fields.ensures c.requires.sound checked.reason checked.fits))

pub returns-clause-reason : goal.returns-clause-reason
returns-clause-reason g c =
    let checked = c.in_ok-check_named.ensures in
    named_allowed g.S.CellStore.store c.args.parts.now c.args.next.now c.in-Some.held c.set_fields.new.self c.in-Some.is c.set_fields.ensures c.requires.sound checked.reason checked.fits

pub returns-clause-new : goal.returns-clause-new
returns-clause-new g c =
    let p = c.args.parts.now in
    let kind = named_kind c.args.next.now in
    let drawn = c.in-Some-one_named in
    let set : c.set_name.new.self ≡ named_by c.set_fields.new.self c.args.next.now = search rules in
    let none : kind_reason p.limits p.count p.weight c.set_name.new.self kind false ≡ None =
    subst (λ (m : ModalState). kind_reason p.limits p.count p.weight m kind false ≡ None) (sym set) c.in_ok-check_named.ensures.reason in
    took_once g.S.CellStore.store p (named_record c.args.next.now) kind c.in-Some.held c.set_name.new.self
    (named_in_cell g.S.CellStore.store p c.args.next.now c.in-Some.held c.set_fields.new.self c.in-Some.is c.set_fields.ensures c.requires.sound c.set_name.new.self set)
    (drawn_once drawn.drawn) none drawn.ensures.some c.draw_once.new.self c.weight-weight.result
    (weighs_so_far _ (drawn_once drawn.drawn) c.weight-weight.result drawn.ensures.some c.weight-weight.ensures) c.in-Ok.ensures.ok

pub returns-clause-sound : goal.returns-clause-sound
returns-clause-sound g c =
    let p = c.args.parts.now in
    let kind = named_kind c.args.next.now in
    let drawn = c.in-Some-one_named in
    let set : c.set_name.new.self ≡ named_by c.set_fields.new.self c.args.next.now = search rules in
    let none : kind_reason p.limits p.count p.weight c.set_name.new.self kind false ≡ None =
    subst (λ (m : ModalState). kind_reason p.limits p.count p.weight m kind false ≡ None) (sym set) c.in_ok-check_named.ensures.reason in
    sound_once g.S.CellStore.store p (named_record c.args.next.now) kind c.in-Some.held c.set_name.new.self
    (named_in_cell g.S.CellStore.store p c.args.next.now c.in-Some.held c.set_fields.new.self c.in-Some.is c.set_fields.ensures c.requires.sound c.set_name.new.self set)
    (drawn_once drawn.drawn) none drawn.ensures.some c.draw_once.new.self c.weight-weight.result
    (weighs_so_far _ (drawn_once drawn.drawn) c.weight-weight.result drawn.ensures.some c.weight-weight.ensures) c.in-Ok.ensures.ok drawn.ensures.near
