use Rattle.oas_cells.proofs.PlaceLemmas.{keys_added}
use Rattle.oas_cells.proofs.placing.place_one.Goals as goal

pub returns-in-Named-clause-keys : goal.returns-in-Named-clause-keys
returns-in-Named-clause-keys c =
    keys_added c.args.profile c.add.result c.args.kept.now c.add.new.self c.in-Named.element c.args.times c.add.ensures.sound c.requires.keys c.add.ensures.ok

pub returns-in-Some-clause-keys : goal.returns-in-Some-clause-keys
returns-in-Some-clause-keys c =
    keys_added c.args.profile c.add_placement.result c.args.kept.now c.add_placement.new.self
    _ c.args.times c.add_placement.ensures.sound c.requires.keys c.add_placement.ensures.ok

pub returns-in-Some-get-clause-keys : goal.returns-in-Some-get-clause-keys
returns-in-Some-get-clause-keys c =
    keys_added c.args.profile c.add_text.result c.args.kept.now c.add_text.new.self
    _ c.args.times c.add_text.ensures.sound c.requires.keys c.add_text.ensures.ok
