use Rattle.std.proofs.Common.{arith}
use Rattle.oas_layout.proofs.DraftCellLemmas.{kept_sound, count_is, added_held, added_ok, added_err}
use Rattle.oas_layout.proofs.draft_cell.DraftCell.add.Goals as goal

pub add-requires-clause-room : goal.add-requires-clause-room
add-requires-clause-room c = omega (arith, count_is c.self.inside.held c.args.self.now c.self.view_is, c.requires.room)

pub invariant_of-self-inside : goal.invariant_of-self-inside
invariant_of-self-inside c =
    let sound = kept_sound c.args.profile c.args.element.now c.requires.points c.requires.inside c.fits.ensures in
    (added_held _ c.args.times sound c.self.inside.held c.add.result c.add.ensures.ok c.add.ensures.err, tt)

pub returns-clause-ok : goal.returns-clause-ok
returns-clause-ok c =
    let sound = kept_sound c.args.profile c.args.element.now c.requires.points c.requires.inside c.fits.ensures in
    added_ok _ c.args.times sound c.self.inside.held c.add.result _ c.add.ensures.ok c.self.view_is _

pub returns-clause-err : goal.returns-clause-err
returns-clause-err c = added_err c.self.inside.held c.add.result _ c.add.ensures.err c.self.view_is _
