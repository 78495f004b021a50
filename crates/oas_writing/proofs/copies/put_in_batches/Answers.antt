use Rattle.std.proofs.Common.{◌≡◌, length, ap, arith}
use Rattle.std.proofs.lemmas.Result.{err_from_is_err_and}
use Rattle.oas_listing.specs.Bytes.{element_bytes}
use Rattle.oas_writing.proofs.ElementLemmas.{record_some, copies_length, copies_short, one_light, batch_is, repeats_fail, repeats_put}
use Rattle.oas_writing.proofs.copies.put_in_batches.Goals as goal

pub put_element-requires : goal.put_element-requires
put_element-requires g c = record { light = one_light c.args.element.now c.args.times c.requires.some c.requires.light }

pub put_times-requires : goal.put_times-requires
put_times-requires g c =
    let held : c.put_element.new.sink ≡ element_bytes c.args.element.now = batch_is c.new-batch.ensures c.in-Ok.ensures.puts in
    omega (arith, ap length held, record_some c.args.element.now)

pub returns-in_err-put_times : goal.returns-in_err-put_times
returns-in_err-put_times g c =
    let p = err_from_is_err_and c.from_residual.result c.from_residual.ensures.1 in
    rw p.1 (repeats_fail c.args.element.now c.args.times (batch_is c.new-batch.ensures c.in-Ok.ensures.puts) c.in_err-put_times.ensures)

pub overflow_mul-result : goal.overflow_mul-result
overflow_mul-result g c =
    omega (
      arith,
      copies_length c.args.times c.in-Ok.size c.args.element.now c.in-Ok.ensures.count_is,
      copies_short c.args.element.now c.args.times c.requires.sound c.requires.light,
    )

pub returns : goal.returns
returns g c = repeats_put c.args.element.now c.args.times (batch_is c.new-batch.ensures c.in-Ok.ensures.puts) c.in-Ok.ensures.count_is c.in_ok-put_times.ensures
