use Rattle.std.proofs.Common.{sym, ◌∙◌, arith}
use Rattle.std.proofs.lemmas.Int.{ints}
use Rattle.oas_ring.specs.Points.{point_at}
use Rattle.oas_ring.proofs.SoleLemmas.{lower, no_lower, higher, below_by_x, below_by_y, not_below_by_axes}
use Rattle.oas_ring.proofs.least.sole_least.Goals.{then-point-least+then-point-least-3, then-point-least-2, else-point-least-2, then-point-least+else-point-least-3+then-point-least-4, then-point-least+else-point-least-3+else-point-least-4, else-point-least}
use Rattle.oas_ring.proofs.least.sole_least.Goals as goal

pub loop-i-preserved : goal.loop-i-preserved
loop-i-preserved c =
    let p = c.args.points.now in
    let i = c.loop-i.i in
    let start = c.loop-i.start in
    let least = c.loop-i.least in
    let sole = c.loop-i.sole in
    let h = c.loop-i.invariant in
    elim c.if-point-least.branch [
      | then-point-least+then-point-least-3 w ↦ rw (w.start-is, w.least-is, w.sole-is) (lower p i start least sole h (elim w.if-point-least-2.branch [
        | then-point-least-2 w' ↦ below_by_x (point_at p i) least (omega (arith, ints))
        | else-point-least-2 w' ↦
            let under = sym w'.value-is ∙ w.if-point-least-3.true in
            below_by_y (point_at p i) least (omega (arith, ints)) (omega (arith, ints))
      ]))
      | then-point-least+else-point-least-3+then-point-least-4 w ↦ rw (w.start-is, w.least-is, w.sole-is) (no_lower p i start least sole h
          (elim w.if-point-least-2.branch [
            | then-point-least-2 w' ↦ absurd cc
            | else-point-least-2 w' ↦
                let no_under = sym w'.value-is ∙ w.if-point-least-3.false in
                not_below_by_axes (point_at p i) least (omega (arith, ints)) (omega (arith, ints))
          ]))
      | then-point-least+else-point-least-3+else-point-least-4 w ↦ rw (w.start-is, w.least-is, w.sole-is) (higher p i start least sole h
          (elim w.if-point-least-2.branch [
            | then-point-least-2 w' ↦ absurd cc
            | else-point-least-2 w' ↦
                let no_under = sym w'.value-is ∙ w.if-point-least-3.false in
                below_by_y least (point_at p i) (omega (arith, ints)) (omega (arith, ints))
          ]))
      | else-point-least w ↦ rw (w.start-is, w.least-is, w.sole-is) (higher p i start least sole h (below_by_x least (point_at p i) (omega (arith, ints))))
    ]
