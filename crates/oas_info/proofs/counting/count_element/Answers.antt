use Rattle.std.proofs.Common.{◌≡◌, ℕ, ◌+◌, ◌*◌, refl, ap}
use Rattle.oas_elements.specs.Weight.{weight_of}
use Rattle.oas_info.proofs.CountingLemmas.{one_light, groups_room, element_counted}
use Rattle.oas_info.proofs.counting.count_element.Goals as goal

pub aspects_of-one-requires : goal.aspects_of-one-requires
aspects_of-one-requires c = one_light c.args.element.now c.args.times c.requires.some c.args.totals.now c.requires.room

pub count_in_groups-requires-clause-room : goal.count_in_groups-requires-clause-room
count_in_groups-requires-clause-room c =
    groups_room c.args.element.now c.args.times c.requires.some c.args.totals.now c.requires.room c.aspects_of-one.result.kind c.aspects_of-one.result.layer
    c.aspects_of-one.ensures.kind c.aspects_of-one.ensures.layer

pub returns : goal.returns
returns c =
    let weight : c.args.totals.now.weight + c.args.times * c.aspects_of-one.result.weight ≡ c.args.totals.now.weight + c.args.times * weight_of c.args.element.now =
    ap (λ (w : ℕ). c.args.totals.now.weight + c.args.times * w) c.aspects_of-one.ensures.weight in
    element_counted c.args.element.now c.args.times c.requires.some c.args.totals.now c.requires.room _ c.aspects_of-one.result.kind c.aspects_of-one.result.layer
    c.aspects_of-one.ensures.kind c.aspects_of-one.ensures.layer c.in_ok-count_in_groups.ensures.tally c.in_ok-count_in_groups.ensures.grows refl weight
