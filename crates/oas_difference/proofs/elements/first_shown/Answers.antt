use Rattle.std.proofs.Common.{◌∙◌, sym}
use Rattle.oas_difference.proofs.Chosen.{first_is, first_is_not}
use Rattle.oas_difference.proofs.elements.first_shown.Goals as goal

pub returns-then-is_shown : goal.returns-then-is_shown
returns-then-is_shown c =
    c.loop-pair.invariant ∙ first_is c.args.layers c.in-Some.pair c.loop-pair.elements c.next.new.self c.in-Some.ensures.steps (sym c.is_shown.ensures ∙ c.if-is_shown.true)

pub loop-pair-preserved : goal.loop-pair-preserved
loop-pair-preserved c =
    c.loop-pair.invariant ∙ first_is_not c.args.layers c.in-Some.pair c.loop-pair.elements c.next.new.self c.in-Some.ensures.steps (sym c.is_shown.ensures ∙ c.if-is_shown.false)
