use Rattle.std.proofs.lemmas.List.{nil_from_length}
use Rattle.std.proofs.Common.{rules, ◌≡◌, List, [], ◌∷◌, ◌∙◌, ap, sym, subst, arith}
use Rattle.std.specs.Vec.Iter.{into_iter_items}
use Rattle.oas_reader.specs.Drawn.{Drawn}
use Rattle.oas_reader.specs.Finish.{IsFit}
use Rattle.oas_reader.specs.Meaning.{element_by}
use Rattle.oas_cells.specs.declared.short.Short.{Short}
use Rattle.oas_cells.specs.Short.{drawn_of, drawn_once}
use Rattle.oas_cells.specs.Placing.{with_placed, IsSoundBy, AreSoundBy}
use Rattle.oas_cells.proofs.PlaceLemmas.{Placing, placing_more}
use Rattle.oas_cells.proofs.placing.place_shorts.Goals as goal

pub place_one-requires-clause-fit : goal.place_one-requires-clause-fit
place_one-requires-clause-fit c =
    let rest : into_iter_items c.loop-short.short-iterator ≡ c.in-Some.short ∷ into_iter_items c.next.new.self = search rules in
    let h = subst (λ (ss : List Short). Placing c.args.profile c.args.names.now.named c.args.strings.now.named c.args.kept.now c.loop-short.kept (drawn_once c.args.shorts.items) (drawn_once ss)) rest
    c.loop-short.invariant in
    subst IsFit (sym c.drawn.ensures) h.waits.0.fit

pub place_one-requires-clause-room : goal.place_one-requires-clause-room
place_one-requires-clause-room c =
    let rest : into_iter_items c.loop-short.short-iterator ≡ c.in-Some.short ∷ into_iter_items c.next.new.self = search rules in
    let h = subst (λ (ss : List Short). Placing c.args.profile c.args.names.now.named c.args.strings.now.named c.args.kept.now c.loop-short.kept (drawn_once c.args.shorts.items) (drawn_once ss)) rest
    c.loop-short.invariant in
    omega (arith, h.room)

pub loop-short-preserved : goal.loop-short-preserved
loop-short-preserved c =
    let rest : into_iter_items c.loop-short.short-iterator ≡ c.in-Some.short ∷ into_iter_items c.next.new.self = search rules in
    placing_more c.args.profile c.args.names.now.named c.args.strings.now.named c.args.kept.now c.loop-short.kept c.place_one.new.kept (drawn_once c.args.shorts.items)
    (drawn_once (into_iter_items c.next.new.self)) (drawn_of c.in-Some.short, 1) (
    subst (λ (ss : List Short). Placing c.args.profile c.args.names.now.named c.args.strings.now.named c.args.kept.now c.loop-short.kept (drawn_once c.args.shorts.items) (drawn_once ss)) rest
    c.loop-short.invariant) (
    c.in_ok-place_one.ensures.placed
    ∙ ap (λ (d : Drawn). with_placed c.args.profile (element_by c.args.names.now.named c.args.strings.now.named d) 1 c.loop-short.kept) c.drawn.ensures
    ) c.in_ok-place_one.ensures.keys (subst (IsSoundBy c.args.names.now.named c.args.strings.now.named) c.drawn.ensures c.in_ok-place_one.ensures.sound)

pub returns-clause-sound : goal.returns-clause-sound
returns-clause-sound c =
    let none : into_iter_items c.loop-short.short-iterator ≡ [] = nil_from_length (into_iter_items c.loop-short.short-iterator) (sym c.loop-short.short-iterator.rest.ok.0 ∙ c.in-None.ensures.steps.0) in
    subst (λ (ss : List Short). AreSoundBy c.args.names.now.named c.args.strings.now.named (drawn_once ss) → AreSoundBy c.args.names.now.named c.args.strings.now.named (drawn_once c.args.shorts.items)) none
    c.loop-short.invariant.sound tt
