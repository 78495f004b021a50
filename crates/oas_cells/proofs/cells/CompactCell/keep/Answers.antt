use Rattle.std.proofs.Common.{◌≡◌, ◌+◌, ◌*◌, ℕ, List, ap, sym, ◌∙◌, arith}
use Rattle.std.specs.Ordering.{nat_cmp}
use Rattle.std.specs.Cmp.Lexicographic.{slice_cmp}
use Rattle.oas_elements.specs.Bag.{put_more}
use Rattle.oas_elements.specs.Laws.BagLaws.{total}
use Rattle.oas_elements.specs.Same.{normal}
use Rattle.oas_keys.specs.Keys.{key_of}
use Rattle.oas_runs.specs.Entries.{Entry}
use Rattle.oas_reader.specs.Weights.{capped}
use Rattle.oas_cells.specs.Compact.{Compact, number_drawn}
use Rattle.oas_cells.specs.Held.{keys_in, waiting_in}
use Rattle.oas_cells.proofs.DrawLemmas.{few_is, kept_up}
use Rattle.oas_cells.proofs.cells.CompactCell.keep.Goals as goal

pub invariant_of-self-2 : goal.invariant_of-self-2
invariant_of-self-2 g c =
    let keys = ap (total (λ _. 1)) (sym c.open.ensures.keys ∙ ap keys_in c.in-Open.is) in
    let waiting = ap (total (λ _. 1)) (sym c.open.ensures.waiting ∙ ap waiting_in c.in-Open.is) in
    let drawn = ap (λ (s : Compact). number_drawn s.keys s.waiting) c.self.view_is in
    let more : total (λ _. 1) c.add.new.self ≡ total (λ _. 1) c.in-Open.kept + c.args.times =
    ap (total (λ _. 1)) c.in_ok-add.ensures.ok ∙ few_is (slice_cmp nat_cmp) c.in-Open.kept (key_of (normal c.profile.result c.args.element)) c.args.times in
    (tt, omega (arith, more, keys, waiting, drawn, c.requires.room))

pub returns-clause-ok : goal.returns-clause-ok
returns-clause-ok g c =
    kept_up g.P.KeptBy.profile c.args.times c.args.self.now c.self.inside.cell c.self.inside.weight c.saturating_add-self-inside.result
    (keys_in c.self.inside.held) (waiting_in c.self.inside.held) c.self.view_is c.args.element c.add.new.self c.in-Open.field-1 c.in_ok-add.ensures.sound
    (c.saturating_add-self-inside.ensures ∙ ap (λ (m : ℕ). capped (c.self.inside.weight + m)) (c.saturating_mul-weight.ensures ∙ ap (λ (m : ℕ). capped (m * c.args.times)) c.weight.ensures))
    (c.in_ok-add.ensures.ok ∙ (ap (λ p. put_more (slice_cmp nat_cmp) c.in-Open.kept (key_of (normal p c.args.element)) c.args.times) c.profile.ensures
    ∙ ap (λ (ks : List Entry). put_more (slice_cmp nat_cmp) ks (key_of (normal g.P.KeptBy.profile c.args.element)) c.args.times) (sym (ap keys_in c.in-Open.is) ∙ c.open.ensures.keys)))
    (sym (ap waiting_in c.in-Open.is) ∙ c.open.ensures.waiting)
