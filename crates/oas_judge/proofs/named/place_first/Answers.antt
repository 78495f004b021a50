use mir.Syntax.{w64}
use mir.Val.{to_z, of_z}
use Rattle.std.proofs.Common.{rules, ◌≡◌, ℕ, List, subst}
use Rattle.oas_elements.specs.declared.element.Element.{Element}
use Rattle.oas_elements.specs.declared.element.Element.TheVariants.{Placement}
use Rattle.oas_writing.specs.Bytes.{element_bytes}
use Rattle.oas_writing.specs.Judging.{GoesOnDrawing}
use Rattle.oas_judge.proofs.named.place_first.Goals as goal

pub returns-clause-yes : goal.returns-clause-yes
returns-clause-yes c done =
    let placed : Placement c.in-Ok.cell (to_z w64 (of_z w64 c.args.at.0)) (to_z w64 (of_z w64 c.args.at.1)) c.args.turns c.args.flip ≡ Placement c.args.name.now c.args.at.0 c.args.at.1 c.args.turns c.args.flip = search rules in
    subst (λ (e : Element). (bytes : List ℕ) → element_bytes e ≡ bytes → GoesOnDrawing c.args.form.now e bytes c.draw_spelled.new.self) placed c.draw_spelled.ensures
