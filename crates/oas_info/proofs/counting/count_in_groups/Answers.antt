use Rattle.oas_info.proofs.CountingLemmas.{kind_room, kind_counted, layer_room, layer_counted, layer_tally, tally}
use Rattle.oas_info.proofs.counting.count_in_groups.Goals as goal

pub count_up-requires : goal.count_up-requires
count_up-requires c = kind_room c.args.kind c.args.layer c.args.times c.requires.some c.args.numbers.now c.requires.room

pub count_up-requires-in-Some : goal.count_up-requires-in-Some
count_up-requires-in-Some c =
    layer_room c.args.kind c.args.layer c.args.times c.requires.some c.args.numbers.now c.requires.room c.count_up.new.counts c.in_ok-count_up.ensures.entries c.in-Some.group c.in-Some.is

pub returns-in-Some-clause-tally : goal.returns-in-Some-clause-tally
returns-in-Some-clause-tally c =
    let t = tally c.args.numbers.now c.count_up.new.counts c.args.kind c.args.times c.requires.some c.in_ok-count_up.ensures.entries c.requires.tally c.in_ok-count_up.ensures.ordered in
    layer_tally c.count_up.new.counts c.count_up-in-Some.new.counts c.in-Some.group c.args.times c.count_up-in-Some.result c.requires.some
    c.count_up-in-Some.ensures.entries c.count_up-in-Some.ensures.ordered t

pub returns-in-Some-clause-grows : goal.returns-in-Some-clause-grows
returns-in-Some-clause-grows c =
    layer_counted c.args.kind c.args.layer c.args.times c.requires.some c.args.numbers.now c.count_up.new.counts c.in_ok-count_up.ensures.entries
    c.in-Some.group c.in-Some.is c.count_up-in-Some.new.counts c.count_up-in-Some.result c.count_up-in-Some.ensures.entries

pub returns-in-None-clause-tally : goal.returns-in-None-clause-tally
returns-in-None-clause-tally c = tally c.args.numbers.now c.count_up.new.counts c.args.kind c.args.times c.requires.some c.in_ok-count_up.ensures.entries
    c.requires.tally c.in_ok-count_up.ensures.ordered

pub returns-in-None-clause-grows : goal.returns-in-None-clause-grows
returns-in-None-clause-grows c =
    kind_counted c.args.kind c.args.layer c.args.times c.requires.some c.args.numbers.now c.count_up.new.counts c.in_ok-count_up.ensures.entries c.in-None.is
