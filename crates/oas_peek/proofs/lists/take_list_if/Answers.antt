use Rattle.oas_record.specs.Fields.{points}
use Rattle.oas_peek.proofs.FrontLemmas.{none_takes, some_takes}
use Rattle.oas_peek.proofs.lists.take_list_if.Goals as goal

pub returns-in_ok-take_list : goal.returns-in_ok-take_list
returns-in_ok-take_list c = some_takes (points c.args.purpose) c.args.here c.if-here.true c.in_ok-take_list.ensures

pub returns-else-here : goal.returns-else-here
returns-else-here c = none_takes (points c.args.purpose) c.args.here _ c.if-here.false
