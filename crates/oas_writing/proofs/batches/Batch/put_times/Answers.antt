use Rattle.std.proofs.Common.{length, sym, ap, arith, ◌∙◌}
use Rattle.std.proofs.lemmas.List.{length-take-le}
use Rattle.std.proofs.lemmas.Result.{err_from_is_err_and}
use Rattle.oas_writing.proofs.RepeatLemmas.{part_within, wholes_fail, part_decides}
use Rattle.oas_writing.proofs.batches.Batch.put_times.Goals as goal

pub returns-in_err-put_repeated : goal.returns-in_err-put_repeated
returns-in_err-put_repeated g c =
    let p = err_from_is_err_and c.from_residual.result c.from_residual.ensures.1 in
    let all = c.as_slice-all.ensures.value ∙ c.multiply-copies.ensures.repeated in
    let size = ap length c.as_slice-size.ensures.value in
    rw p.1 (wholes_fail c.args.times _ _ c.args.self.now _ all c.multiply-copies.ensures.some size c.in_err-put_repeated.ensures)

pub overflow_mul-times : goal.overflow_mul-times
overflow_mul-times g c =
    let all = c.as_slice-all.ensures.value ∙ c.multiply-copies.ensures.repeated in
    let size = ap length c.as_slice-size.ensures.value in
    omega (arith, part_within c.args.times _ _ c.args.self.now _ all c.multiply-copies.ensures.some size)

pub slice_bounds-put_all-end : goal.slice_bounds-put_all-end
slice_bounds-put_all-end g c =
    let all = c.as_slice-all.ensures.value ∙ c.multiply-copies.ensures.repeated in
    let size = ap length c.as_slice-size.ensures.value in
    sym (length-take-le _ _ (part_within c.args.times _ _ c.args.self.now _ all c.multiply-copies.ensures.some size))

pub returns : goal.returns
returns g c =
    let all = c.as_slice-all.ensures.value ∙ c.multiply-copies.ensures.repeated in
    let size = ap length c.as_slice-size.ensures.value in
    part_decides c.args.times _ _ c.args.self.now _ all c.multiply-copies.ensures.some size _ _ c.in_ok-put_repeated.ensures c.put_all.ensures
