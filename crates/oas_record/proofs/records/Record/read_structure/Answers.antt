use Rattle.std.proofs.lemmas.Result.{err_from_is_err_and}
use Rattle.std.proofs.Common.{◌≡◌, arith}
use Rattle.oas_record.proofs.IdLemmas.{three_or_four, five_or_six, thirteen_or_fourteen}
use Rattle.oas_record.proofs.AfterLemmas.{pad_read, cell_name_fails, cell_name_read, text_string_fails, text_string_read, cell_fails, cell_read, xy_absolute_read, xy_relative_read}
use Rattle.oas_record.proofs.records.Record.read_structure.Goals as goal

pub returns-then-id-eq0 : goal.returns-then-id-eq0
returns-then-id-eq0 g c = λ in_end. pad_read in_end _ _ c.if-id-eq0.true

pub returns-in_err-name : goal.returns-in_err-name
returns-in_err-name g c =
    let p = err_from_is_err_and c.from_residual.result c.from_residual.ensures.1 in
    λ in_end. rw (p.1, p.2) (cell_name_fails in_end _ (three_or_four _ c.requires.known c.requires.inner c.if-id-eq0.false c.if-id-le4.true) c.in_err-name.ensures)

pub returns-then-id-le4 : goal.returns-then-id-le4
returns-then-id-le4 g c = λ in_end. cell_name_read in_end _ _ (three_or_four _ c.requires.known c.requires.inner c.if-id-eq0.false c.if-id-le4.true) c.in_ok-name.ensures

pub returns-in_err-label : goal.returns-in_err-label
returns-in_err-label g c =
    let p = err_from_is_err_and c.from_residual-in_err-label.result c.from_residual-in_err-label.ensures.1 in
    λ in_end. rw (p.1, p.2) (text_string_fails in_end _ (five_or_six _ c.if-id-le4.false c.if-id-le6.true) c.in_err-label.ensures)

pub returns-then-id-le6 : goal.returns-then-id-le6
returns-then-id-le6 g c = λ in_end. text_string_read in_end _ _ (five_or_six _ c.if-id-le4.false c.if-id-le6.true) c.in_ok-label.ensures

pub returns-in_err-cell : goal.returns-in_err-cell
returns-in_err-cell g c =
    let p = err_from_is_err_and c.from_residual-in_err-cell.result c.from_residual-in_err-cell.ensures.1 in
    λ in_end. rw (p.1, p.2) (cell_fails in_end _ (thirteen_or_fourteen _ c.requires.known c.if-id-le6.false c.if-id-le14.true) c.in_err-cell.ensures)

pub returns-then-id-le14 : goal.returns-then-id-le14
returns-then-id-le14 g c = λ in_end. cell_read in_end _ _ (thirteen_or_fourteen _ c.requires.known c.if-id-le6.false c.if-id-le14.true) c.in_ok-cell.ensures

pub returns-then-id-eq15 : goal.returns-then-id-eq15
returns-then-id-eq15 g c = λ in_end. xy_absolute_read in_end _ _ c.if-id-eq15.true

pub returns : goal.returns
returns g c =
    let is : c.args.id ≡ 16 = omega (arith, c.if-id-le14.false, c.if-id-eq15.false, c.requires.below) in
    λ in_end. xy_relative_read in_end _ _ is
