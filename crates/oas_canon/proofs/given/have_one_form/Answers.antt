use Rattle.oas_canon.proofs.Whole.{layouts_form}
use Rattle.oas_canon.proofs.given.have_one_form.Goals as goal

pub returns-in-Layout-Layout : goal.returns-in-Layout-Layout
returns-in-Layout-Layout c =
    let one = c.in-Layout-Layout.is-0 in
    let other = c.in-Layout-Layout.is-1 in
    let alike = rw other at (rw one at c.requires) in
    rw (one, other) (layouts_form _ _ _ alike.0 alike.1 alike.2 (c.same.ensures alike.2))
