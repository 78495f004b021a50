use Rattle.std.proofs.Common.{arith}
use Rattle.std.proofs.lemmas.Result.{err_from_is_err_and}
use Rattle.oas_form.proofs.FewGroups.{one_group, two_groups, three_groups, four_groups, all_at_once, fails_at_once}
use Rattle.oas_form.proofs.parts.put_number.Goals as goal

pub returns-in_err-put-clause-counts : goal.returns-in_err-put-clause-counts
returns-in_err-put-clause-counts g c =
    let p = err_from_is_err_and c.from_residual.result c.from_residual.ensures.1 in
    rw p.1 (fails_at_once (one_group c.args.value (omega (arith, c.if-value-lt-TWO_BYTES.true))) c.in_err-put.ensures)

pub returns-then-value-lt-TWO_BYTES-clause-counts : goal.returns-then-value-lt-TWO_BYTES-clause-counts
returns-then-value-lt-TWO_BYTES-clause-counts g c = all_at_once (one_group c.args.value (omega (arith, c.if-value-lt-TWO_BYTES.true))) c.in_ok-put.ensures

pub returns-in_err-put_two-clause-counts : goal.returns-in_err-put_two-clause-counts
returns-in_err-put_two-clause-counts g c =
    let p = err_from_is_err_and c.from_residual-in_err-put_two.result c.from_residual-in_err-put_two.ensures.1 in
    rw p.1 (fails_at_once (two_groups c.args.value c.lowest.result (omega (arith, c.if-value-lt-TWO_BYTES.false)) (omega (arith, c.if-value-lt-THREE_BYTES.true)) c.lowest.ensures) c.in_err-put_two.ensures)

pub returns-then-value-lt-THREE_BYTES-clause-counts : goal.returns-then-value-lt-THREE_BYTES-clause-counts
returns-then-value-lt-THREE_BYTES-clause-counts g c = all_at_once (two_groups c.args.value c.lowest.result (omega (arith, c.if-value-lt-TWO_BYTES.false)) (omega (arith, c.if-value-lt-THREE_BYTES.true)) c.lowest.ensures) c.in_ok-put_two.ensures

pub returns-in_err-put_three-clause-counts : goal.returns-in_err-put_three-clause-counts
returns-in_err-put_three-clause-counts g c =
    let p = err_from_is_err_and c.from_residual-in_err-put_three.result c.from_residual-in_err-put_three.ensures.1 in
    rw p.1 (fails_at_once (three_groups c.args.value c.lowest-then-value-lt-FOUR_BYTES.result c.lowest-then-value-lt-FOUR_BYTES-2.result (omega (arith, c.if-value-lt-THREE_BYTES.false)) (omega (arith, c.if-value-lt-FOUR_BYTES.true)) c.lowest-then-value-lt-FOUR_BYTES.ensures c.lowest-then-value-lt-FOUR_BYTES-2.ensures) c.in_err-put_three.ensures)

pub returns-then-value-lt-FOUR_BYTES-clause-counts : goal.returns-then-value-lt-FOUR_BYTES-clause-counts
returns-then-value-lt-FOUR_BYTES-clause-counts g c = all_at_once (three_groups c.args.value c.lowest-then-value-lt-FOUR_BYTES.result c.lowest-then-value-lt-FOUR_BYTES-2.result (omega (arith, c.if-value-lt-THREE_BYTES.false)) (omega (arith, c.if-value-lt-FOUR_BYTES.true)) c.lowest-then-value-lt-FOUR_BYTES.ensures c.lowest-then-value-lt-FOUR_BYTES-2.ensures) c.in_ok-put_three.ensures

pub returns-in_err-put_four-clause-counts : goal.returns-in_err-put_four-clause-counts
returns-in_err-put_four-clause-counts g c =
    let p = err_from_is_err_and c.from_residual-in_err-put_four.result c.from_residual-in_err-put_four.ensures.1 in
    rw p.1 (fails_at_once (four_groups c.args.value c.lowest-then-value-lt-FIVE_BYTES.result c.lowest-then-value-lt-FIVE_BYTES-2.result c.lowest-then-value-lt-FIVE_BYTES-3.result (omega (arith, c.if-value-lt-FOUR_BYTES.false)) (omega (arith, c.if-value-lt-FIVE_BYTES.true)) c.lowest-then-value-lt-FIVE_BYTES.ensures c.lowest-then-value-lt-FIVE_BYTES-2.ensures c.lowest-then-value-lt-FIVE_BYTES-3.ensures) c.in_err-put_four.ensures)

pub returns-then-value-lt-FIVE_BYTES-clause-counts : goal.returns-then-value-lt-FIVE_BYTES-clause-counts
returns-then-value-lt-FIVE_BYTES-clause-counts g c = all_at_once (four_groups c.args.value c.lowest-then-value-lt-FIVE_BYTES.result c.lowest-then-value-lt-FIVE_BYTES-2.result c.lowest-then-value-lt-FIVE_BYTES-3.result (omega (arith, c.if-value-lt-FOUR_BYTES.false)) (omega (arith, c.if-value-lt-FIVE_BYTES.true)) c.lowest-then-value-lt-FIVE_BYTES.ensures c.lowest-then-value-lt-FIVE_BYTES-2.ensures c.lowest-then-value-lt-FIVE_BYTES-3.ensures) c.in_ok-put_four.ensures
