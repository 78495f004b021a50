use Rattle.std.proofs.Common.{rules, ◌≡◌, false, None, Some}
use Rattle.oas_shape.specs.Steps.{still}
use Rattle.oas_elements.specs.declared.element.Element.TheVariants as element
use Rattle.oas_drawing.specs.declared.drawn.Drawn.{Drawn}
use Rattle.oas_drawing.specs.declared.drawn.Drawn.TheVariants.{Named}
use Rattle.oas_drawing.specs.declared.kinds.Kind.TheVariants.{Rectangle}
use Rattle.oas_drawing.specs.Drawing.{drawn_by}
use Rattle.oas_drawing.specs.Reasons.{kind_reason}
use Rattle.oas_drawing.proofs.Rectangles.{near_both, past_grid}
use Rattle.oas_drawing.proofs.modal.ModalVariables.one_rectangle.Goals as goal

pub returns-then-fits_grid-clause-near : goal.returns-then-fits_grid-clause-near
returns-then-fits_grid-clause-near c = near_both c.args.self.now.geometry (search rules) (search rules)

pub returns-else-fits_grid-clause-err : goal.returns-else-fits_grid-clause-err
returns-else-fits_grid-clause-err c =
    let m = c.args.self.now in
    let none : kind_reason c.args.limits c.args.count c.args.weight m Rectangle false ≡ None = search rules in
    let drawn : Drawn = Named (element.Rectangle c.in-Some-Some-Some-Some.layer c.in-Some-Some-Some-Some.datatype c.in-Some-Some-Some-Some.width c.in-Some-Some-Some-Some.height c.in-Some-Some.x c.in-Some-Some.y) in
    let is : drawn_by m Rectangle still ≡ Some drawn = search rules in
    past_grid c.args.limits c.args.count c.args.weight m drawn none is (search rules)

pub returns-in_default-clause-err : goal.returns-in_default-clause-err
returns-in_default-clause-err c = search rules

pub returns-then-elements-count-lt1-clause-err : goal.returns-then-elements-count-lt1-clause-err
returns-then-elements-count-lt1-clause-err c = search rules

pub returns-then-weight-lt1-clause-err : goal.returns-then-weight-lt1-clause-err
returns-then-weight-lt1-clause-err c = search rules

pub returns-in_default-2-clause-err : goal.returns-in_default-2-clause-err
returns-in_default-2-clause-err c = search rules

pub returns-then-fits_grid-clause-reason : goal.returns-then-fits_grid-clause-reason
returns-then-fits_grid-clause-reason c = search rules

pub returns-then-fits_grid-clause-ok : goal.returns-then-fits_grid-clause-ok
returns-then-fits_grid-clause-ok c = search rules

pub returns-then-fits_grid-clause-fits : goal.returns-then-fits_grid-clause-fits
returns-then-fits_grid-clause-fits c = search rules
