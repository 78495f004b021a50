use Rattle.std.proofs.Common.{◌≡◌, ◌+◌, ◌-◌, ℕ, take, drop, subst, arith}
use Rattle.oas_keys.specs.Laws.FieldLaws.{NoZero}
use Rattle.oas_keys.proofs.PartLemmas.{free_step}
use Rattle.oas_keys.proofs.parts.steps_len.Goals as goal

pub loop-len-preserved : goal.loop-len-preserved
loop-len-preserved c =
    let step : c.loop-len.len + 16 - c.loop-len.len ≡ 16 = omega arith in
    let free = c.has_no_zero.ensures c.if-has_no_zero.true in (
      omega (arith, c.loop-len-test.true),
      free_step c.args.bytes.now c.loop-len.len 16 c.loop-len.invariant.1 (subst (λ (n : ℕ). NoZero (take n (drop c.loop-len.len c.args.bytes.now))) step free),
    )
