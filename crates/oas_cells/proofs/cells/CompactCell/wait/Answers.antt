use Rattle.std.proofs.Common.{ℕ, List, ap, sym, ◌∙◌, subst, arith}
use Rattle.oas_elements.specs.Laws.BagLaws.{total}
use Rattle.oas_reader.specs.Drawn.{Drawn}
use Rattle.oas_cells.specs.Compact.{Compact, number_drawn, WaitsMore}
use Rattle.oas_cells.specs.Held.{keys_in, waiting_in}
use Rattle.oas_cells.proofs.DrawLemmas.{waits_up}
use Rattle.oas_cells.proofs.cells.CompactCell.wait.Goals as goal

pub invariant_of-self-2 : goal.invariant_of-self-2
invariant_of-self-2 g c =
    let keys = ap (total (λ _. 1)) (sym c.open.ensures.keys ∙ ap keys_in c.in-Open.is) in
    let waiting = ap (total (λ _. 1)) (sym c.open.ensures.waiting ∙ ap waiting_in c.in-Open.is) in
    let drawn = ap (λ (s : Compact). number_drawn s.keys s.waiting) c.self.view_is in
    (tt, omega (arith, c.in_ok-add.ensures.ok.sums (λ _. 1), keys, waiting, drawn, c.requires.room))

pub returns-clause-ok : goal.returns-clause-ok
returns-clause-ok g c =
    waits_up g.P.KeptBy.profile c.args.times c.args.self.now c.self.inside.cell c.self.inside.weight c.saturating_add-self-inside.result
    (keys_in c.self.inside.held) (waiting_in c.self.inside.held) c.self.view_is c.args.drawn c.in-Open.field-0 c.add.new.self c.requires.some c.ranges.times.fits
    c.requires.fit c.requires.unnamed c.saturating_add-self-inside.ensures (sym (ap keys_in c.in-Open.is) ∙ c.open.ensures.keys)
    (subst (λ (ws : List (Drawn × ℕ)). WaitsMore ws c.args.drawn c.args.times c.add.new.self) (sym (ap waiting_in c.in-Open.is) ∙ c.open.ensures.waiting) c.in_ok-add.ensures.ok)
