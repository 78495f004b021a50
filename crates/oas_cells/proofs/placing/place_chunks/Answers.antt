use Rattle.std.proofs.lemmas.List.{nil_from_length}
use Rattle.std.proofs.Common.{rules, ◌≡◌, ℕ, List, [], ◌∷◌, subst, sym, ◌∙◌}
use Rattle.std.specs.Vec.Iter.{into_iter_items}
use Rattle.oas_runs.specs.Blocks.{joined}
use Rattle.oas_reader.specs.Drawn.{Drawn}
use Rattle.oas_cells.specs.Placing.{AreSoundBy}
use Rattle.oas_cells.proofs.PlaceLemmas.{Placing, placing_chunk, room_next}
use Rattle.oas_cells.proofs.WaitLemmas.{all_front}
use Rattle.oas_cells.proofs.placing.place_chunks.Goals as goal

pub place_chunk-requires-clause-waits : goal.place_chunk-requires-clause-waits
place_chunk-requires-clause-waits c =
    let rest : into_iter_items c.loop-chunk.chunk-iterator ≡ c.in-Some.chunk ∷ into_iter_items c.next.new.self = search rules in
    let h = subst (λ (cs : List (List (Drawn × ℕ))). Placing c.args.profile c.args.names.now.named c.args.strings.now.named c.args.kept.now c.loop-chunk.kept (joined c.args.chunks.items) (joined cs)) rest
    c.loop-chunk.invariant in
    all_front c.in-Some.chunk (joined (into_iter_items c.next.new.self)) h.waits

pub place_chunk-requires-clause-room : goal.place_chunk-requires-clause-room
place_chunk-requires-clause-room c =
    let rest : into_iter_items c.loop-chunk.chunk-iterator ≡ c.in-Some.chunk ∷ into_iter_items c.next.new.self = search rules in
    let h = subst (λ (cs : List (List (Drawn × ℕ))). Placing c.args.profile c.args.names.now.named c.args.strings.now.named c.args.kept.now c.loop-chunk.kept (joined c.args.chunks.items) (joined cs)) rest
    c.loop-chunk.invariant in
    room_next c.loop-chunk.kept c.in-Some.chunk (joined (into_iter_items c.next.new.self)) h.room

pub loop-chunk-preserved : goal.loop-chunk-preserved
loop-chunk-preserved c =
    let rest : into_iter_items c.loop-chunk.chunk-iterator ≡ c.in-Some.chunk ∷ into_iter_items c.next.new.self = search rules in
    placing_chunk c.args.profile c.args.names.now.named c.args.strings.now.named c.args.kept.now c.loop-chunk.kept c.place_chunk.new.kept (joined c.args.chunks.items)
    c.in-Some.chunk (joined (into_iter_items c.next.new.self)) (
    subst (λ (cs : List (List (Drawn × ℕ))). Placing c.args.profile c.args.names.now.named c.args.strings.now.named c.args.kept.now c.loop-chunk.kept (joined c.args.chunks.items) (joined cs)) rest
    c.loop-chunk.invariant) c.in_ok-place_chunk.ensures.placed c.in_ok-place_chunk.ensures.keys
    c.in_ok-place_chunk.ensures.sound

pub returns-clause-sound : goal.returns-clause-sound
returns-clause-sound c =
    let none : into_iter_items c.loop-chunk.chunk-iterator ≡ [] = nil_from_length (into_iter_items c.loop-chunk.chunk-iterator) (sym c.loop-chunk.chunk-iterator.rest.ok.0 ∙ c.in-None.ensures.steps.0) in
    subst (λ (cs : List (List (Drawn × ℕ))). AreSoundBy c.args.names.now.named c.args.strings.now.named (joined cs) → AreSoundBy c.args.names.now.named c.args.strings.now.named (joined c.args.chunks.items)) none
    c.loop-chunk.invariant.sound tt
