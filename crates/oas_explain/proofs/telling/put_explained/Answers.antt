use Rattle.std.proofs.lemmas.Result.{err_from_is_err_and}
use Rattle.oas_num.proofs.PuttingLemmas.{begins, first, fails_at, ends}
use Rattle.oas_explain.specs.Telling.{explanation_for}
use Rattle.oas_explain.proofs.TellLemmas.{explains}
use Rattle.oas_explain.proofs.telling.put_explained.Goals as goal

pub returns-in_err-put_all : goal.returns-in_err-put_all
returns-in_err-put_all g c =
    let p = err_from_is_err_and c.from_residual.result c.from_residual.ensures.1 in
    let heard = c.number_recognized-number.ensures in (
      explanation_for c.args.reasons.now c.args.words.now c.args.advice.now c.number_recognized-number.result,
      explains _ _ _ _ _ heard.refused heard.unopened heard.not_profile_1 heard.nothing,
      rw p.1 (fails_at _ (begins _ _) c.in_err-put_all.ensures),
    )

pub returns : goal.returns
returns g c =
    let heard = c.number_recognized-number.ensures in (
      explanation_for c.args.reasons.now c.args.words.now c.args.advice.now c.number_recognized-number.result,
      explains _ _ _ _ _ heard.refused heard.unopened heard.not_profile_1 heard.nothing,
      ends _ _ (first _ c.in_ok-put_all.ensures) c.put_named.ensures,
    )
