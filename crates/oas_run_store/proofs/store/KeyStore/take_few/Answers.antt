use Rattle.std.proofs.Common.{rules, ◌≡◌, [], ◌∷◌, ◌++◌, List, length, ap, sym, ◌∙◌, refl}
use Rattle.std.specs.Cmp.Lexicographic.{slice_cmp}
use Rattle.std.specs.Ordering.{nat_cmp}
use Rattle.std.proofs.lemmas.Cmp.{nat_list_cmp_total}
use Rattle.std.proofs.lemmas.Map.Lookups.{exact_bytes}
use Rattle.std.proofs.Common.{◌+◌, ◌≤◌, arith}
use Rattle.std.specs.Vec.{vec_len}
use Rattle.oas_runs.specs.Entries.{Entry}
use Rattle.oas_run_store.specs.Tally.{tally}
use Rattle.oas_run_store.specs.Parts.{contents}
use Rattle.oas_run_store.proofs.PartLemmas.{split_runs, IsRun-empty}
use Rattle.oas_run_store.proofs.StoreLemmas.{same_view, only_run, no_run, run_is_view}
use Rattle.oas_run_store.proofs.store.KeyStore.take_few.Goals as goal

pub returns-then-not-settle_all-clause-none : goal.returns-then-not-settle_all-clause-none
returns-then-not-settle_all-clause-none c = same_view nat_list_cmp_total exact_bytes c.self.inside.rising c.self.inside.loose c.settle_all.new.rising
    c.settle_all.new.loose c.self.inside.runs.items c.settle_all.new.runs.items c.self.invariant c.settle_all.ensures.parts c.settle_all.ensures.same ∙ c.self.view_is

pub returns-in_default-clause-some : goal.returns-in_default-clause-some
returns-in_default-clause-some c =
    let none : length c.settle_all.new.runs.items ≡ 0 = search rules in
    run_is_view nat_list_cmp_total exact_bytes c.new.result c.self.inside.rising c.self.inside.loose c.settle_all.new.rising c.settle_all.new.loose
    c.self.inside.runs.items c.settle_all.new.runs.items (IsRun-empty (slice_cmp nat_cmp) c.new.result c.new.ensures)
    c.self.invariant (c.if-not-settle_all.ensures.rising refl) (c.if-not-settle_all.ensures.loose refl) c.settle_all.ensures.same
    (no_run c.settle_all.new.runs.items c.new.result none c.new.ensures)
    ∙ c.self.view_is

pub returns-in-Ok-clause-some : goal.returns-in-Ok-clause-some
returns-in-Ok-clause-some c =
    let one : vec_len c.settle_all.new.runs ≤ 1 = search rules in
    let fewer : vec_len c.pop.new.self + 1 ≡ vec_len c.settle_all.new.runs = search rules in
    let none : length c.pop.new.self.items ≡ 0 = omega (arith, one, fewer, c.pop.new.self.ok) in
    (c.fitted.ensures ∙ c.in-Ok.ensures.ok)
    ∙ (run_is_view nat_list_cmp_total exact_bytes c.in-Some.run' c.self.inside.rising c.self.inside.loose c.settle_all.new.rising c.settle_all.new.loose
    c.self.inside.runs.items c.settle_all.new.runs.items
    (split_runs (slice_cmp nat_cmp) c.settle_all.new.runs.items c.pop.new.self.items c.in-Some.run' c.in-Some.ensures.items c.settle_all.ensures.parts.runs).1
    c.self.invariant (c.if-not-settle_all.ensures.rising refl) (c.if-not-settle_all.ensures.loose refl) c.settle_all.ensures.same
    (only_run c.settle_all.new.runs.items c.pop.new.self.items c.in-Some.run' c.in-Some.ensures.items none)
    ∙ c.self.view_is)

pub returns-in-Err-clause-none : goal.returns-in-Err-clause-none
returns-in-Err-clause-none c =
    let back : c.push_reserved.new.self.items ≡ c.settle_all.new.runs.items =
    c.push_reserved.ensures.items ∙ (ap (λ (r : List Entry). c.pop.new.self.items ++ r ∷ []) c.in-Err.ensures.err ∙ sym c.in-Some.ensures.items) in
    ap (λ (rs : List (List Entry)). tally (slice_cmp nat_cmp) (contents c.settle_all.new.rising c.settle_all.new.loose rs)) back
    ∙ (same_view nat_list_cmp_total exact_bytes c.self.inside.rising c.self.inside.loose c.settle_all.new.rising
    c.settle_all.new.loose c.self.inside.runs.items c.settle_all.new.runs.items c.self.invariant c.settle_all.ensures.parts c.settle_all.ensures.same ∙ c.self.view_is)
