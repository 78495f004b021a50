use Rattle.std.proofs.Common.{ℕ, ◌+◌, ◌*◌, ◌∙◌, ap}
use Rattle.std.specs.Cmp.Lexicographic.{slice_cmp}
use Rattle.std.specs.Ordering.{nat_cmp}
use Rattle.std.proofs.lemmas.Cmp.{nat_list_cmp_total}
use Rattle.std.proofs.lemmas.Map.Lookups.{exact_bytes}
use Rattle.oas_run_store.proofs.AddLemmas.{parts_loose, more_loose, more_push, positive_push, kept_room}
use Rattle.oas_run_store.proofs.adding.add_loose.Goals as goal

pub returns-clause-parts : goal.returns-clause-parts
returns-clause-parts c =
    parts_loose nat_list_cmp_total exact_bytes c.make_room.new.rising c.make_room.new.loose c.append.new.self c.make_room.new.runs.items
    c.args.key.now c.args.times c.make_room.ensures.parts
    (positive_push c.make_room.new.loose c.append.new.self c.args.key.now c.args.times c.requires.some c.in_ok-append.ensures.ok c.make_room.ensures.parts.waits)
    (more_push c.make_room.new.loose c.append.new.self c.args.key.now c.args.times c.in_ok-append.ensures.ok)
    (kept_room (slice_cmp nat_cmp) _ _ c.args.key.now c.args.times c.make_room.ensures.same c.requires.room)

pub returns-clause-ok : goal.returns-clause-ok
returns-clause-ok c = λ h.
    more_loose c.make_room.new.rising c.make_room.new.loose c.append.new.self c.make_room.new.runs.items c.args.key.now c.args.times
    (more_push c.make_room.new.loose c.append.new.self c.args.key.now c.args.times c.in_ok-append.ensures.ok) h
    ∙ ap (λ (n : ℕ). c.args.times * h c.args.key.now + n) (c.make_room.ensures.same h)
