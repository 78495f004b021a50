use Rattle.std.proofs.Common.{◌≡◌, ◌∙◌, ℕ, ◌+◌, List, length, ap, sym, arith, w64}
use Rattle.std.proofs.lemmas.Int.{to_z-of_z}
use Rattle.std.specs.Ordering.{nat_cmp}
use Rattle.std.specs.Cmp.Lexicographic.{slice_cmp}
use Rattle.oas_elements.specs.declared.element.Element.TheVariants.{Text}
use Rattle.oas_elements.specs.Bag.{put_more}
use Rattle.oas_elements.specs.Laws.BagLaws.{total}
use Rattle.oas_elements.specs.Weight.{weight_of}
use Rattle.oas_keys.specs.Keys.{key_of}
use Rattle.oas_runs.specs.Entries.{Entry}
use Rattle.oas_reader.specs.Weights.{capped}
use Rattle.oas_reader.proofs.WeightLemmas.{capped_once}
use Rattle.oas_cells.specs.Compact.{Compact, number_drawn}
use Rattle.oas_cells.specs.Held.{keys_in, waiting_in}
use Rattle.oas_cells.proofs.DrawLemmas.{few_is, kept_up}
use Rattle.oas_cells.proofs.cells.CompactCell.draw_text.Goals as goal

pub invariant_of-self-in-Label : goal.invariant_of-self-in-Label
invariant_of-self-in-Label g c =
    let keys = ap (total (λ _. 1)) (sym c.open.ensures.keys ∙ ap keys_in c.in-Open.is) in
    let waiting = ap (total (λ _. 1)) (sym c.open.ensures.waiting ∙ ap waiting_in c.in-Open.is) in
    let drawn = ap (λ (s : Compact). number_drawn s.keys s.waiting) c.self.view_is in
    let more : total (λ _. 1) c.add_text.new.self ≡ total (λ _. 1) c.in-Open.kept + 1 =
    ap (total (λ _. 1)) (simp (to_z-of_z w64 c.args.x c.ranges.x, to_z-of_z w64 c.args.y c.ranges.y) at c.in_ok-add_text-in-Label.ensures.ok) ∙ few_is (slice_cmp nat_cmp) c.in-Open.kept (key_of (Text c.in-Label.label c.args.textlayer c.args.texttype c.args.x c.args.y)) 1 in
    (tt, omega (arith, more, keys, waiting, drawn, c.requires.room))

pub returns-in_ok-add_text-in-Label-clause-ok : goal.returns-in_ok-add_text-in-Label-clause-ok
returns-in_ok-add_text-in-Label-clause-ok g c =
    rw c.in-Label.is (
    kept_up g.P.KeptBy.profile 1 c.args.self.now c.self.inside.cell c.self.inside.weight c.saturating_add-self-inside.result
    (keys_in c.self.inside.held) (waiting_in c.self.inside.held) c.self.view_is (Text c.in-Label.label c.args.textlayer c.args.texttype c.args.x c.args.y) c.add_text.new.self c.in-Open.field-1 (simp (to_z-of_z w64 c.args.x c.ranges.x, to_z-of_z w64 c.args.y c.ranges.y) at c.in_ok-add_text-in-Label.ensures.sound)
    (c.saturating_add-self-inside.ensures ∙ (ap (λ (bytes : List ℕ). capped (c.self.inside.weight + (1 + length bytes))) c.as_bytes.ensures.bytes ∙ capped_once c.self.inside.weight (weight_of (Text c.in-Label.label c.args.textlayer c.args.texttype c.args.x c.args.y))))
    ((simp (to_z-of_z w64 c.args.x c.ranges.x, to_z-of_z w64 c.args.y c.ranges.y) at c.in_ok-add_text-in-Label.ensures.ok)
    ∙ ap (λ (ks : List Entry). put_more (slice_cmp nat_cmp) ks (key_of (Text c.in-Label.label c.args.textlayer c.args.texttype c.args.x c.args.y)) 1) (sym (ap keys_in c.in-Open.is) ∙ c.open.ensures.keys))
    (sym (ap waiting_in c.in-Open.is) ∙ c.open.ensures.waiting)
    )
