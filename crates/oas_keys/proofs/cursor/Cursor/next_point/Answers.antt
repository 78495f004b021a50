use Rattle.std.proofs.Common.{◌≡◌, ◌∷◌, ◌++◌, true, sym, ap, ◌∙◌, subst}
use Rattle.oas_ring.specs.declared.point.Point.{Point}
use Rattle.oas_elements.specs.Grid.{is_grid_point}
use Rattle.oas_keys.specs.Keys.{points_key}
use Rattle.oas_keys.specs.Laws.FieldLaws.{AreWithin, parts}
use Rattle.oas_keys.proofs.PartLemmas.{sum_is}
use Rattle.oas_keys.proofs.cursor.Cursor.next_point.Goals as goal

pub returns-clause-next : goal.returns-clause-next
returns-clause-next c ps rest within is =
    let s = c.in_ok-step.ensures.next c.args.before ps rest c.requires.from within is in
    let inside : is_grid_point s.0 ≡ true = (subst AreWithin s.2 within).0 in
    let ex = sum_is c.args.before.x s.0.x c.in_ok-step.step.0 (parts c.args.before c.requires.from).0 (parts s.0 inside).0 s.3 in
    let ey = sum_is c.args.before.y s.0.y c.in_ok-step.step.1 (parts c.args.before c.requires.from).1 (parts s.0 inside).1 s.4 in
    let e : s.0 ≡ _ = λ i. record { x = sym ex i; y = sym ey i } in
    (s.1, s.2 ∙ ap (λ (p : Point). p ∷ s.1) e, s.5 ∙ ap (λ (p : Point). points_key p s.1 ++ rest) e)
