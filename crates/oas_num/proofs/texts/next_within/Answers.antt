use Rattle.std.proofs.lemmas.Result.{err_from_is_err_and}
use Rattle.oas_num.proofs.GrammarLemmas.{such_fails_by}
use Rattle.oas_num.proofs.TextLemmas.{ClassMay-byte}
use Rattle.oas_num.proofs.texts.next_within.Goals as goal

pub returns-in_err-byte : goal.returns-in_err-byte
returns-in_err-byte g c =
    let p = err_from_is_err_and c.from_residual.result c.from_residual.ensures.1 in
    rw (p.1, p.2) (such_fails_by _ _ _ _ _ _ _ (ClassMay-byte _) c.in_err-byte.ensures)
