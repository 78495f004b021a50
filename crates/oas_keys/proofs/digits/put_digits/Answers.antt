use Rattle.std.proofs.Common.{rules, ◌≡◌, ◌%◌, ◌*◌, ◌^◌, ◌++◌, ℕ, ◌-◌, suc, sym, ap, ◌∙◌, arith, List}
use Rattle.oas_keys.specs.Numbers.{digits}
use Rattle.oas_keys.proofs.DigitLemmas.{step}
use Rattle.oas_keys.proofs.digits.put_digits.Goals as goal
use Rattle.oas_keys.proofs.digits.put_digits.Invariants.{Halfway}

pub loop-left-preserved : goal.loop-left-preserved
loop-left-preserved c =
    let h : Halfway c.args.number c.args.count c.loop-left.left c.args.out.now.items c.loop-left.out.items = c.loop-left.invariant.0 in
    let e : c.loop-left.left ≡ suc (c.loop-left.left - 1) = omega (arith, c.loop-left-test.true) in (
      record {
        items =
            step c.args.number (c.loop-left.left - 1) c.loop-left.left (c.args.out.now.items ++ digits c.args.count (c.args.number % 2 ^ (8 * c.args.count))) c.loop-left.out.items e h.items
            ∙ ap (λ (t : List ℕ). t ++ digits (c.loop-left.left - 1) (c.args.number % 2 ^ (8 * (c.loop-left.left - 1)))) (sym c.push_reserved.ensures.items);
        low = omega (arith, h.low);
      },
      (omega (arith, c.push_reserved.ensures.len, c.loop-left.invariant.1, c.loop-left-test.true), search rules),
    )
