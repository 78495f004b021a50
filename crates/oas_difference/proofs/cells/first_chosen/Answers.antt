use Rattle.std.proofs.Common.{◌≡◌, ◌∙◌, ◌∷◌, true, false, sym, ap}
use Rattle.oas_diff_options.specs.Choice as spec
use Rattle.oas_difference.specs.Held.{cells_chosen}
use Rattle.oas_difference.proofs.Chosen.{first_cell, not_first}
use Rattle.oas_difference.proofs.cells.first_chosen.Goals as goal

pub returns-then-is_named : goal.returns-then-is_named
returns-then-is_named c =
    let choice = c.args.choice in
    let name = c.in-Some.name.now in
    let taken : spec.is_named choice.cells name ≡ true = ap (spec.is_named choice.cells) (sym c.as_bytes.ensures.bytes) ∙ sym c.is_named.ensures ∙ c.if-is_named.true in
    c.loop-name.invariant ∙ first_cell choice (name, c.in-Some.elements) c.loop-name.cells c.next.new.self c.in-Some.ensures.steps taken
    ∙ (λ i. (name, sym c.new.ensures i) ∷ cells_chosen choice c.next.new.self)

pub loop-name-preserved : goal.loop-name-preserved
loop-name-preserved c =
    let choice = c.args.choice in
    let name = c.in-Some.name.now in
    let passed : spec.is_named choice.cells name ≡ false = ap (spec.is_named choice.cells) (sym c.as_bytes.ensures.bytes) ∙ sym c.is_named.ensures ∙ c.if-is_named.false in
    c.loop-name.invariant ∙ not_first choice (name, c.in-Some.elements) c.loop-name.cells c.next.new.self c.in-Some.ensures.steps passed
