use Rattle.std.proofs.lemmas.Result.{err_from_is_err_and}
use Rattle.std.proofs.Common.{◌+◌, ◌<◌, ◌^◌, sym, ◌∙◌, ap, subst, List}
use Rattle.std.specs.Cmp.Lexicographic.{slice_cmp}
use Rattle.std.specs.Ordering.{nat_cmp}
use Rattle.std.proofs.lemmas.Cmp.{nat_list_cmp_total}
use Rattle.std.proofs.lemmas.Map.Lookups.{exact_bytes}
use Rattle.oas_elements.specs.Bag.{put_more}
use Rattle.oas_runs.specs.Entries.{Entry}
use Rattle.oas_run_store.specs.Tally.{count_at}
use Rattle.oas_run_store.specs.Parts.{contents}
use Rattle.oas_run_store.proofs.AddLemmas.{positive_contents, room_in}
use Rattle.oas_run_store.proofs.StoreLemmas.{same_view, more_view}
use Rattle.oas_run_store.proofs.store.KeyStore.add.Goals as goal

pub add_key-requires-clause-room : goal.add_key-requires-clause-room
add_key-requires-clause-room c =
    room_in nat_list_cmp_total exact_bytes (contents c.self.inside.rising c.self.inside.loose c.self.inside.runs.items) c.args.key.now c.args.times
    (positive_contents (slice_cmp nat_cmp) _ _ _ c.self.invariant)
    (subst (λ (es : List Entry). count_at (slice_cmp nat_cmp) es c.args.key.now + c.args.times < 2 ^ 64) (sym c.self.view_is) c.requires.room)

pub returns-in_err-add_key-clause-err : goal.returns-in_err-add_key-clause-err
returns-in_err-add_key-clause-err c =
    let p = err_from_is_err_and c.from_residual.result c.from_residual.ensures.1 in
    rw p.1 (same_view nat_list_cmp_total exact_bytes c.self.inside.rising c.self.inside.loose c.add_key.new.rising c.add_key.new.loose
    c.self.inside.runs.items c.add_key.new.runs.items c.self.invariant c.in_err-add_key.ensures.parts c.in_err-add_key.ensures.err ∙ c.self.view_is)

pub returns-clause-ok : goal.returns-clause-ok
returns-clause-ok c =
    more_view nat_list_cmp_total exact_bytes c.self.inside.rising c.self.inside.loose c.add_key.new.rising c.add_key.new.loose
    c.self.inside.runs.items c.add_key.new.runs.items c.args.key.now c.args.times c.requires.some c.self.invariant c.in_ok-add_key.ensures.parts
    c.in_ok-add_key.ensures.ok ∙ ap (λ (es : List Entry). put_more (slice_cmp nat_cmp) es c.args.key.now c.args.times) c.self.view_is
