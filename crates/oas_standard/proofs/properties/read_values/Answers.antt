use Rattle.std.proofs.lemmas.Result.{err_from_is_err_and}
use Rattle.oas_num.proofs.HalfwayLemmas.{◌▸◌, at_image, fails_at, fails_last, is_read}
use Rattle.oas_standard.specs.Properties.{value_count, values}
use Rattle.oas_standard.proofs.properties.read_values.Goals as goal

pub returns-in_err-count : goal.returns-in_err-count
returns-in_err-count g c =
    let p = err_from_is_err_and c.from_residual.result c.from_residual.ensures.1 in
    rw (p.1, p.2) (fails_at (at_image {took = (values c.args.info).took} _) c.in_err-count.ensures)

pub returns-in_err-pass_values : goal.returns-in_err-pass_values
returns-in_err-pass_values g c =
    let p = err_from_is_err_and c.from_residual-in_err-pass_values.result c.from_residual-in_err-pass_values.ensures.1 in
    rw (p.1, p.2) (fails_last (at_image {took = (values c.args.info).took} _ ▸ ((value_count c.args.info).found.one, c.in_ok-count.ensures)) c.in_err-pass_values.ensures)

pub returns : goal.returns
returns g c = is_read (at_image {took = (values c.args.info).took} _ ▸ ((value_count c.args.info).found.one, c.in_ok-count.ensures)) c.in_ok-pass_values.ensures
