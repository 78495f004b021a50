use Rattle.std.proofs.Common.{◌+◌, ◌∙◌, ap, arith}
use Rattle.std.proofs.lemmas.Result.{err_from_is_err_and}
use Rattle.std.proofs.lemmas.List.{length_push}
use Rattle.oas_num.specs.Laws.TextLaws.{PrefixFree-class}
use Rattle.oas_num.proofs.TextLemmas.{TextMay-class, inside}
use Rattle.oas_num.proofs.GrammarLemmas.{listed_more}
use Rattle.oas_num.proofs.PieceLemmas.{item_fails, item_unkept}
use Rattle.oas_num.proofs.texts.read_text.Goals as goal

pub returns-in_err-byte : goal.returns-in_err-byte
returns-in_err-byte g c =
    let p = err_from_is_err_and c.from_residual.result c.from_residual.ensures.1 in
    rw (p.1, p.2) (item_fails (PrefixFree-class _) (TextMay-class _ _) (omega arith) c.loop.invariant.listed c.in_err-byte.ensures)

pub returns-in_err-push : goal.returns-in_err-push
returns-in_err-push g c =
    let p = err_from_is_err_and c.from_residual-in_err-push.result c.from_residual-in_err-push.ensures.1 in
    rw (p.1, p.2) (item_unkept inside (omega arith) c.loop.invariant.listed c.in_ok-byte.ensures)

pub loop-preserved : goal.loop-preserved
loop-preserved g c =
    rw c.in_ok-push.ensures.items (record {
      listed = listed_more _ _ _ _ _ _ c.loop.invariant.listed c.in_ok-byte.ensures;
      len = length_push _ _ ∙ ap (λ n. n + 1) c.loop.invariant.len;
    })
