use Rattle.std.proofs.Common.{arith}
use Rattle.std.proofs.lemmas.Result.{err_from_is_err_and}
use Rattle.oas_standard.proofs.ForeignLemmas.{two_ids, name_fails, string_fails, layers_fail, name_read, string_read}
use Rattle.oas_standard.proofs.records.read_name.Goals as goal

pub returns-in_err-name : goal.returns-in_err-name
returns-in_err-name g c =
    let p = err_from_is_err_and c.from_residual.result c.from_residual.ensures.1 in
    λ in_end. rw (p.1, p.2) (name_fails in_end _ (two_ids _ 7 c.requires.above (omega (arith, c.if-id-le8.true))) c.in_err-name.ensures)

pub returns-then-id-le8 : goal.returns-then-id-le8
returns-then-id-le8 g c = λ in_end. name_read in_end _ _ (two_ids _ 7 c.requires.above (omega (arith, c.if-id-le8.true))) c.in_ok-name.ensures

pub returns-in_err-string : goal.returns-in_err-string
returns-in_err-string g c =
    let p = err_from_is_err_and c.from_residual-in_err-string.result c.from_residual-in_err-string.ensures.1 in
    λ in_end. rw (p.1, p.2) (string_fails in_end _ (two_ids _ 9 (omega (arith, c.if-id-le8.false)) (omega (arith, c.if-id-le10.true))) c.in_err-string.ensures)

pub returns-then-id-le10 : goal.returns-then-id-le10
returns-then-id-le10 g c = λ in_end. string_read in_end _ _ (two_ids _ 9 (omega (arith, c.if-id-le8.false)) (omega (arith, c.if-id-le10.true))) c.in_ok-string.ensures

pub returns-in_err-name-2 : goal.returns-in_err-name-2
returns-in_err-name-2 g c =
    let p = err_from_is_err_and c.from_residual-in_err-name-2.result c.from_residual-in_err-name-2.ensures.1 in
    λ in_end. rw (p.1, p.2) (layers_fail in_end c.args.id (two_ids _ 11 (omega (arith, c.if-id-le10.false)) (omega (arith, c.requires.below))) c.in_err-name-2.ensures)
