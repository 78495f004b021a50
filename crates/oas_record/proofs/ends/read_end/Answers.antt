use Rattle.std.proofs.Common.{refl}
use Rattle.std.proofs.lemmas.Result.{err_from_is_err_and}
use Rattle.oas_num.specs.Laws.TextLaws.{PrefixFree-padding}
use Rattle.oas_num.specs.Laws.IntegerLaws.{PrefixFree-IsUnsigned}
use Rattle.oas_record.specs.Ends.{nothing, end_parts, EndTook}
use Rattle.oas_record.proofs.FieldLemmas.{PrefixFree-offsets_if}
use Rattle.oas_record.proofs.EndLemmas.{other_scheme, scheme_read}
use Rattle.oas_num.proofs.HalfwayLemmas.{◌▸◌, at_image, fails_at, fails_last, is_read, such_took, such_refused}
use Rattle.oas_record.proofs.ends.read_end.Goals as goal

pub returns-in_err-pass_offsets_if : goal.returns-in_err-pass_offsets_if
returns-in_err-pass_offsets_if g c =
    let p = err_from_is_err_and c.from_residual.result c.from_residual.ensures.1 in
    rw (p.1, p.2) (fails_at (at_image {f = nothing} {A = (end_parts c.args.in_end).any} {took = EndTook c.args.in_end} _) c.in_err-pass_offsets_if.ensures)

pub returns-in_err-read : goal.returns-in_err-read
returns-in_err-read g c =
    let p = err_from_is_err_and c.from_residual-in_err-read.result c.from_residual-in_err-read.ensures.1 in
    rw (p.1, p.2) (fails_at (at_image {f = nothing} {A = (end_parts c.args.in_end).any} {took = EndTook c.args.in_end} _ ▸
    (PrefixFree-offsets_if _, c.in_ok-pass_offsets_if.ensures)) c.in_err-read.ensures)

pub returns-in_err-scheme : goal.returns-in_err-scheme
returns-in_err-scheme g c =
    let p = err_from_is_err_and c.from_residual-in_err-scheme.result c.from_residual-in_err-scheme.ensures.1 in
    rw (p.1, p.2) (fails_last (at_image {f = nothing} {A = (end_parts c.args.in_end).any} {took = EndTook c.args.in_end} _ ▸
    (PrefixFree-offsets_if _, c.in_ok-pass_offsets_if.ensures) ▸ (PrefixFree-padding, c.in_ok-read.ensures)) (such_took c.in_err-scheme.ensures))

pub returns-then-scheme-gt0 : goal.returns-then-scheme-gt0
returns-then-scheme-gt0 g c = fails_last (at_image {f = nothing} {A = (end_parts c.args.in_end).any} {took = EndTook c.args.in_end} _ ▸
    (PrefixFree-offsets_if _, c.in_ok-pass_offsets_if.ensures) ▸ (PrefixFree-padding, c.in_ok-read.ensures))
    (such_refused PrefixFree-IsUnsigned refl (other_scheme c.if-scheme-gt0.true) (refl, other_scheme c.if-scheme-gt0.true) c.in_ok-scheme.ensures)

pub returns : goal.returns
returns g c = is_read (at_image {f = nothing} {A = (end_parts c.args.in_end).any} {took = EndTook c.args.in_end} _ ▸
    (PrefixFree-offsets_if _, c.in_ok-pass_offsets_if.ensures) ▸ (PrefixFree-padding, c.in_ok-read.ensures))
    (scheme_read c.if-scheme-gt0.false c.in_ok-scheme.ensures)
