use Rattle.oas_ring.specs.declared.point.Point.{Point}
use Rattle.oas_layout.specs.Held.{points_held}
use Rattle.oas_layout.specs.Laws.PointsLaws.{has_them}
use Rattle.oas_layout.proofs.StepLemmas.{goes}
use Rattle.oas_layout.proofs.PointLemmas.{left_points, takes_point}
use Rattle.oas_layout.proofs.points.ShownPointsIterator.next.Goals as goal

pub invariant_of-self-inside : goal.invariant_of-self-inside
invariant_of-self-inside c =
    let h = c.self.inside.some in
    (left_points _ _ _ (c.next.ensures.next (points_held h) (has_them h)), tt)

pub returns-clause-steps : goal.returns-clause-steps
returns-clause-steps c =
    let h = c.self.inside.some in
    takes_point _ _ _ _ c.self.view_is (c.next.ensures.next (points_held h) (has_them h)) _

pub returns-clause-goes : goal.returns-clause-goes
returns-clause-goes c = goes (λ (p : Point). p) _ _ _ tt (returns-clause-steps c)
