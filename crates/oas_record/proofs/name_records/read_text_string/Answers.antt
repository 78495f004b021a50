use Rattle.std.proofs.lemmas.Result.{err_from_is_err_and}
use Rattle.oas_num.specs.Style.{Any}
use Rattle.oas_num.specs.Laws.TextLaws.{PrefixFree-label}
use Rattle.oas_record.specs.NameRecords.{TextStringTook}
use Rattle.oas_num.proofs.HalfwayLemmas.{◌▸◌, at_start, fails_at, fails_last, is_read, number_took}
use Rattle.oas_record.proofs.name_records.read_text_string.Goals as goal

pub returns-in_err-label : goal.returns-in_err-label
returns-in_err-label g c =
    let p = err_from_is_err_and c.from_residual.result c.from_residual.ensures.1 in
    rw (p.1, p.2) (fails_at (at_start _) c.in_err-label.ensures)

pub returns-in_err-number : goal.returns-in_err-number
returns-in_err-number g c =
    let p = err_from_is_err_and c.from_residual-in_err-number.result c.from_residual-in_err-number.ensures.1 in
    rw (p.1, p.2) (fails_last (at_start _ ▸ (PrefixFree-label Any, c.in_ok-label.ensures)) (number_took _ c.in_err-number.ensures))

pub returns : goal.returns
returns g c = is_read (at_start {took = TextStringTook c.args.numbered} _ ▸ (PrefixFree-label Any, c.in_ok-label.ensures)) c.in_ok-number.ensures
