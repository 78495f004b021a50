use Rattle.oas_elements.specs.declared.element.Element.TheVariants.{Placement}
use Rattle.oas_form.proofs.FollowingLemmas.{draws_next}
use Rattle.oas_form.proofs.judging.FormJudge.place_next.Goals as goal

pub returns-then-made-clause-yes : goal.returns-then-made-clause-yes
returns-then-made-clause-yes c made bytes is =
    draws_next c.args.self.now c.may_go_on-self.result c.in-Some.last c.place_over-next.result.0 (Placement c.args.name.now c.args.at.0 c.args.at.1 c.args.turns c.args.flip) c.in-Some-placement_order.order
    bytes c.in-Some.is c.in-Some-placement_order.ensures c.may_go_on-self.ensures is (c.place_over-next.ensures.yes made)
