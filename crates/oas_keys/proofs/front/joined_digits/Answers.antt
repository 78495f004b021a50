use Rattle.std.proofs.Common.{◌+◌, ◌*◌, ◌<◌, ℕ, drop, ap, sym, ◌∙◌, arith}
use Rattle.std.proofs.lemmas.List.{at_drop_more}
use Rattle.oas_keys.specs.Reading.{joined_digits}
use Rattle.oas_keys.proofs.ReadingLemmas.{joins, joins_fit}
use Rattle.oas_keys.proofs.front.joined_digits.Goals as goal

pub overflow_mul-number : goal.overflow_mul-number
overflow_mul-number c = omega (arith, joins_fit c.loop-byte.number c.loop-byte.byte-index c.loop-byte.invariant.1 (omega arith))

pub loop-byte-preserved : goal.loop-byte-preserved
loop-byte-preserved c =
    let b : c.from.result < 256 = omega (arith, c.from.ensures, c.type_inv.bytes c.loop-byte.byte-index) in (
      c.loop-byte.invariant.0
          ∙ at_drop_more (joined_digits c.loop-byte.number) c.args.bytes.now c.loop-byte.byte-index 0 c.loop-byte-test.true
          ∙ ap (λ (b : ℕ). joined_digits (c.loop-byte.number * 256 + b) (drop (c.loop-byte.byte-index + 1) c.args.bytes.now)) (sym c.from.ensures),
      joins c.loop-byte.number c.loop-byte.byte-index c.from.result c.loop-byte.invariant.1 b,
    )
