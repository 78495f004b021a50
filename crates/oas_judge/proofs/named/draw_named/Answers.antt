use Rattle.std.proofs.Common.{rules, ◌≡◌, Some, arith}
use Rattle.oas_elements.specs.declared.element.Element.TheVariants.{Placement, Text}
use Rattle.oas_peek.specs.declared.named.Given.TheVariants.{Bytes}
use Rattle.oas_peek.specs.declared.named.NamedOnce.TheVariants as once
use Rattle.oas_judge.proofs.NamedSteps.{placement_named, text_named}
use Rattle.oas_judge.proofs.named.draw_named.Goals as goal

pub returns-then-name-lt-HEAVIEST-clause-yes : goal.returns-then-name-lt-HEAVIEST-clause-yes
returns-then-name-lt-HEAVIEST-clause-yes c done =
    let m = c.in-Placement-Bytes-default-default-default-default in
    let p = c.in-Some-Some in
    let is : c.args.next.now ≡ once.Placement (Bytes m.name) m.quarters m.flip m.x m.y = search rules in (
      Placement m.name.now p.at.0 p.at.1 p.turns m.flip,
      placement_named c.args.next.now m.name m.quarters m.flip m.x m.y p.turns p.at is p.ensures p.ensures' (omega (arith, c.if-name-lt-HEAVIEST.true)) (search rules),
      c.place.ensures.yes done,
    )

pub returns-then-string-lt-HEAVIEST-clause-yes : goal.returns-then-string-lt-HEAVIEST-clause-yes
returns-then-string-lt-HEAVIEST-clause-yes c done =
    let m = c.in-Text-Bytes-Some-Some-default-default in
    let is : c.args.next.now ≡ once.Text (Bytes m.string) (Some m.textlayer) (Some m.texttype) m.x m.y = search rules in (
      Text m.string.now m.textlayer m.texttype c.in-Some.at.0 c.in-Some.at.1,
      text_named c.args.next.now m.string m.textlayer m.texttype m.x m.y c.in-Some.at is (search rules) (search rules) c.in-Some.ensures (omega (arith, c.if-string-lt-HEAVIEST.true)) (search rules),
      c.write.ensures.yes done,
    )
