use Rattle.std.proofs.Common.{◌≡◌, ◌≢◌, ◌-◌, ◌*◌, ◌/◌, ◌%◌, ◌^◌, ◌<◌, Some, refl, sym, ap, subst, ◌∙◌, arith}
use Rattle.oas_narrow.proofs.TurningLemmas.{some_up, none_up, some_down, none_down, halfway}
use Rattle.oas_narrow.proofs.turning.quarters_of.Goals.{then-angle, else-angle+in_ok-halved}
use Rattle.oas_narrow.proofs.turning.quarters_of.Goals as goal

pub returns-in_err-halved : goal.returns-in_err-halved
returns-in_err-halved c =
    c.from_residual.ensures ∙ halfway c.args.angle (omega (arith, c.if-quarter-eq0.false, c.from-quarter.ensures)) (omega (arith, c.if-angle.false)) (c.in_err-halved.ensures.none refl)

pub returns-then-degrees-quarter-ne0 : goal.returns-then-degrees-quarter-ne0
returns-then-degrees-quarter-ne0 c =
    let some : 0 < c.args.angle.den = omega (arith, c.if-quarter-eq0.false, c.from-quarter.ensures) in
    let apart : c.if-angle.degrees % (90 * c.args.angle.den) ≢ 0 = subst (λ n. c.if-angle.degrees % (90 * n) ≢ 0) c.from-quarter.ensures c.if-degrees-quarter-ne0.true in
    elim c.if-angle.branch [
      | then-angle w ↦ none_up c.args.angle c.if-angle.degrees some (omega (arith, w.if-angle.true))
          (w.degrees-is ∙ w.doubled_within-degrees.ensures ∙ ap (λ n. c.args.angle.num * 2 ^ (c.args.angle.doubled - c.args.angle.halved) % (4 * (90 * n))) c.from-quarter.ensures) apart
      | else-angle+in_ok-halved w ↦ none_down c.args.angle c.if-angle.degrees some (omega (arith, w.if-angle.false))
          (ap (λ n. n * 2 ^ (c.args.angle.halved - c.args.angle.doubled)) (w.degrees-is ∙ w.from-degrees.ensures) ∙ w.in_ok-halved.ensures.some) apart
    ]

pub returns : goal.returns
returns c =
    let some : 0 < c.args.angle.den = omega (arith, c.if-quarter-eq0.false, c.from-quarter.ensures) in
    let whole : c.if-angle.degrees % (90 * c.args.angle.den) ≡ 0 = ap (λ n. c.if-angle.degrees % (90 * n)) (sym c.from-quarter.ensures) ∙ omega (arith, c.if-degrees-quarter-ne0.false) in
    ap (λ n. Some (c.if-angle.degrees / (90 * n) % 4)) c.from-quarter.ensures ∙
    elim c.if-angle.branch [
      | then-angle w ↦ some_up c.args.angle c.if-angle.degrees some (omega (arith, w.if-angle.true))
          (w.degrees-is ∙ w.doubled_within-degrees.ensures ∙ ap (λ n. c.args.angle.num * 2 ^ (c.args.angle.doubled - c.args.angle.halved) % (4 * (90 * n))) c.from-quarter.ensures) whole
      | else-angle+in_ok-halved w ↦ some_down c.args.angle c.if-angle.degrees some (omega (arith, w.if-angle.false))
          (ap (λ n. n * 2 ^ (c.args.angle.halved - c.args.angle.doubled)) (w.degrees-is ∙ w.from-degrees.ensures) ∙ w.in_ok-halved.ensures.some) whole
    ]
