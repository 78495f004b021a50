use Rattle.std.proofs.Common.{ℕ, ◌+◌, ◌<◌, ◌^◌, List, ◌++◌, ◌∙◌, ap, sym, subst, refl}
use Rattle.oas_elements.specs.Laws.BagLaws.{total}
use Rattle.oas_runs.specs.Entries.{Entry}
use Rattle.oas_runs.specs.Blocks.{joined}
use Rattle.oas_reader.specs.Drawn.{Drawn}
use Rattle.oas_cells.specs.Placing.{Places}
use Rattle.oas_cells.proofs.PlaceLemmas.{first_waits, then_waits, first_room, then_room, both_placed, both_sound_by, waits_in_order, room_in_order, places_in_order, sound_in_order}
use Rattle.oas_cells.proofs.placing.place_queue.Goals as goal

pub place_chunks-requires-clause-waits : goal.place_chunks-requires-clause-waits
place_chunks-requires-clause-waits c =
    first_waits (joined c.in_ok-row.row.items ++ c.queue.inside.others.entries) (joined c.in_ok-row.row.items) c.queue.inside.others.entries refl
    (waits_in_order c.args.queue (joined c.in_ok-came.came.items) (joined c.in_ok-row.row.items) c.queue.inside.others.entries
    (ap (λ (ps : List (Drawn × ℕ)). ps ++ c.queue.inside.others.entries) c.in_ok-came.ensures ∙ c.queue.view_is) c.in_ok-row.ensures.same c.requires.waits c.in_ok-row.ensures.waits)

pub place_chunks-requires-clause-room : goal.place_chunks-requires-clause-room
place_chunks-requires-clause-room c =
    first_room (joined c.in_ok-row.row.items ++ c.queue.inside.others.entries) (joined c.in_ok-row.row.items) c.queue.inside.others.entries refl c.begin_order.new.kept
    (room_in_order c.args.queue (joined c.in_ok-came.came.items) (joined c.in_ok-row.row.items) c.queue.inside.others.entries
    (ap (λ (ps : List (Drawn × ℕ)). ps ++ c.queue.inside.others.entries) c.in_ok-came.ensures ∙ c.queue.view_is) c.in_ok-row.ensures.same c.begin_order.new.kept
    (subst (λ (ks : List Entry). total (λ _. 1) ks + total (λ _. 1) c.args.queue < 2 ^ 64) (sym c.begin_order.ensures) c.requires.room))

pub place_counted-requires-clause-waits : goal.place_counted-requires-clause-waits
place_counted-requires-clause-waits c =
    then_waits (joined c.in_ok-row.row.items ++ c.queue.inside.others.entries) (joined c.in_ok-row.row.items) c.queue.inside.others.entries refl
    (waits_in_order c.args.queue (joined c.in_ok-came.came.items) (joined c.in_ok-row.row.items) c.queue.inside.others.entries
    (ap (λ (ps : List (Drawn × ℕ)). ps ++ c.queue.inside.others.entries) c.in_ok-came.ensures ∙ c.queue.view_is) c.in_ok-row.ensures.same c.requires.waits c.in_ok-row.ensures.waits)

pub place_counted-requires-clause-room : goal.place_counted-requires-clause-room
place_counted-requires-clause-room c =
    then_room (joined c.in_ok-row.row.items ++ c.queue.inside.others.entries) (joined c.in_ok-row.row.items) c.queue.inside.others.entries refl
    c.args.profile c.args.names.now.named c.args.strings.now.named c.begin_order.new.kept c.place_chunks.new.kept c.in_ok-place_chunks.ensures.placed
    (room_in_order c.args.queue (joined c.in_ok-came.came.items) (joined c.in_ok-row.row.items) c.queue.inside.others.entries
    (ap (λ (ps : List (Drawn × ℕ)). ps ++ c.queue.inside.others.entries) c.in_ok-came.ensures ∙ c.queue.view_is) c.in_ok-row.ensures.same c.begin_order.new.kept
    (subst (λ (ks : List Entry). total (λ _. 1) ks + total (λ _. 1) c.args.queue < 2 ^ 64) (sym c.begin_order.ensures) c.requires.room))

pub returns-clause-placed : goal.returns-clause-placed
returns-clause-placed c =
    subst (λ (ks : List Entry). Places c.args.profile c.args.names.now.named c.args.strings.now.named c.args.queue ks c.place_counted.new.kept) c.begin_order.ensures
    (places_in_order c.args.queue (joined c.in_ok-came.came.items) (joined c.in_ok-row.row.items) c.queue.inside.others.entries
    (ap (λ (ps : List (Drawn × ℕ)). ps ++ c.queue.inside.others.entries) c.in_ok-came.ensures ∙ c.queue.view_is) c.in_ok-row.ensures.same
    c.args.profile c.args.names.now.named c.args.strings.now.named c.begin_order.new.kept c.place_counted.new.kept
    (both_placed (joined c.in_ok-row.row.items ++ c.queue.inside.others.entries) (joined c.in_ok-row.row.items) c.queue.inside.others.entries refl
    c.args.profile c.args.names.now.named c.args.strings.now.named c.begin_order.new.kept c.place_chunks.new.kept c.in_ok-place_chunks.ensures.placed c.place_counted.new.kept
    c.in_ok-place_counted.ensures.placed))

pub returns-clause-sound : goal.returns-clause-sound
returns-clause-sound c =
    sound_in_order c.args.queue (joined c.in_ok-came.came.items) (joined c.in_ok-row.row.items) c.queue.inside.others.entries
    (ap (λ (ps : List (Drawn × ℕ)). ps ++ c.queue.inside.others.entries) c.in_ok-came.ensures ∙ c.queue.view_is) c.in_ok-row.ensures.same
    c.args.names.now.named c.args.strings.now.named c.requires.waits
    (both_sound_by (joined c.in_ok-row.row.items ++ c.queue.inside.others.entries) (joined c.in_ok-row.row.items) c.queue.inside.others.entries refl
    c.args.profile c.args.names.now.named c.args.strings.now.named c.begin_order.new.kept c.place_chunks.new.kept c.in_ok-place_chunks.ensures.placed
    c.in_ok-place_chunks.ensures.sound c.in_ok-place_counted.ensures.sound)
