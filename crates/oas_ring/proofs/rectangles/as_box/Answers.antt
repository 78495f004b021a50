use Rattle.std.proofs.Common.{◌≡◌, sym, ◌∙◌, subst, arith, rules}
use Rattle.std.proofs.lemmas.Bool.{iff_false}
use Rattle.oas_ring.specs.declared.rectangles.Corners.{Corners}
use Rattle.oas_ring.specs.Rectangles.{IsBox}
use Rattle.oas_ring.specs.Laws.RectanglesLaws.{length_of_box, corners_of_box}
use Rattle.oas_ring.proofs.rectangles.as_box.Goals as goal

pub returns-then-points-ne4-clause-none : goal.returns-then-points-ne4-clause-none
returns-then-points-ne4-clause-none c = λ b h. let four = length_of_box c.args.points.now b h in absurd (omega arith)

pub returns-else-is_box-clause-none : goal.returns-else-is_box-clause-none
returns-else-is_box-clause-none c = λ b h.
    let p = c.args.points.now in
    let same : c.corners_between_points-corners.result ≡ b = c.corners_between_points-corners.ensures ∙ corners_of_box p b h in
    iff_false c.is_box.ensures c.if-is_box.false (subst (λ (t : Corners). IsBox p t) (sym same) h)

pub returns-then-is_box-clause-none : goal.returns-then-is_box-clause-none
returns-then-is_box-clause-none c = search rules
