use Rattle.oas_elements.specs.declared.element.Element.TheVariants.{Text}
use Rattle.oas_form.proofs.FollowingLemmas.{draws_next}
use Rattle.oas_form.proofs.judging.FormJudge.write_next.Goals as goal

pub returns-then-made-clause-yes : goal.returns-then-made-clause-yes
returns-then-made-clause-yes c made bytes is =
    draws_next c.args.self.now c.may_go_on-self.result c.in-Some.last c.write_over-next.result.0 (Text c.args.string.now c.args.layers.0 c.args.layers.1 c.args.at.0 c.args.at.1) c.in-Some-text_order.order bytes
    c.in-Some.is c.in-Some-text_order.ensures c.may_go_on-self.ensures is (c.write_over-next.ensures.yes made)
