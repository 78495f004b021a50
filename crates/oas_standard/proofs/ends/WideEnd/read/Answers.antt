use Rattle.std.proofs.lemmas.Result.{err_from_is_err_and}
use Rattle.oas_num.proofs.HalfwayLemmas.{◌▸◌, at_image, fails_at, fails_last, is_read}
use Rattle.oas_standard.specs.Ends.{WideEndTook}
use Rattle.oas_standard.specs.Long.{long_padding}
use Rattle.oas_standard.specs.Offsets.{long_offsets_part}
use Rattle.oas_standard.proofs.ends.WideEnd.read.Goals as goal

pub returns-in_err-pass_offsets_if : goal.returns-in_err-pass_offsets_if
returns-in_err-pass_offsets_if g c =
    let p = err_from_is_err_and c.from_residual.result c.from_residual.ensures.1 in
    rw (p.1, p.2) (fails_at (at_image {took = WideEndTook c.args.in_end} _) c.in_err-pass_offsets_if.ensures)

pub returns-in_err-read_long_padding : goal.returns-in_err-read_long_padding
returns-in_err-read_long_padding g c =
    let p = err_from_is_err_and c.from_residual-in_err-read_long_padding.result c.from_residual-in_err-read_long_padding.ensures.1 in
    rw (p.1, p.2) (fails_at (at_image {took = WideEndTook c.args.in_end} _ ▸ ((long_offsets_part _).found.one, c.in_ok-pass_offsets_if.ensures)) c.in_err-read_long_padding.ensures)

pub returns-in_err-validation : goal.returns-in_err-validation
returns-in_err-validation g c =
    let p = err_from_is_err_and c.from_residual-in_err-validation.result c.from_residual-in_err-validation.ensures.1 in
    rw (p.1, p.2) (fails_last (at_image {took = WideEndTook c.args.in_end} _ ▸ ((long_offsets_part _).found.one, c.in_ok-pass_offsets_if.ensures) ▸
    (long_padding.found.one, c.in_ok-read_long_padding.ensures)) c.in_err-validation.ensures)

pub returns : goal.returns
returns g c = is_read (at_image {took = WideEndTook c.args.in_end} _ ▸ ((long_offsets_part _).found.one, c.in_ok-pass_offsets_if.ensures) ▸ (long_padding.found.one, c.in_ok-read_long_padding.ensures)) c.in_ok-validation.ensures
