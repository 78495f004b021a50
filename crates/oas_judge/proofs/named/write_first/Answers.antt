use mir.Syntax.{w64}
use mir.Val.{to_z, of_z}
use Rattle.std.proofs.Common.{rules, ◌≡◌, ℕ, List, subst}
use Rattle.oas_elements.specs.declared.element.Element.{Element}
use Rattle.oas_elements.specs.declared.element.Element.TheVariants.{Text}
use Rattle.oas_writing.specs.Bytes.{element_bytes}
use Rattle.oas_writing.specs.Judging.{GoesOnDrawing}
use Rattle.oas_judge.proofs.named.write_first.Goals as goal

pub returns-clause-yes : goal.returns-clause-yes
returns-clause-yes c done =
    let written : Text c.in-Ok.label c.args.layers.0 c.args.layers.1 (to_z w64 (of_z w64 c.args.at.0)) (to_z w64 (of_z w64 c.args.at.1)) ≡ Text c.args.string.now c.args.layers.0 c.args.layers.1 c.args.at.0 c.args.at.1 = search rules in
    subst (λ (e : Element). (bytes : List ℕ) → element_bytes e ≡ bytes → GoesOnDrawing c.args.form.now e bytes c.draw_spelled.new.self) written c.draw_spelled.ensures
