use Rattle.std.proofs.Common.{rules, sym, ◌∙◌}
use Rattle.std.proofs.lemmas.Result.{err_from_is_err_and}
use Rattle.oas_num.proofs.PuttingLemmas.{ends}
use Rattle.oas_difference.proofs.LimitLemmas.{limited_short, lines_fail, lines_lost, lines_so_far}
use Rattle.oas_difference.proofs.writing.DifferenceContent.put_into.Goals as goal

pub returns-in_err-put_compared-clause-writes : goal.returns-in_err-put_compared-clause-writes
returns-in_err-put_compared-clause-writes g c =
    let o = c.args.self.now.options in
    let p = err_from_is_err_and c.from_residual.result c.from_residual.ensures.1 in
    rw p.1 (lines_fail _ _ _ _ c.put_compared.new.sink (λ name. search rules) o.format.syntax o.limit _ (search rules) c.put_compared.ensures.short (rw c.new-lines.ensures at c.in_err-put_compared.ensures.writes))

pub returns-then-has_failed-clause-writes : goal.returns-then-has_failed-clause-writes
returns-then-has_failed-clause-writes g c =
    let o = c.args.self.now.options in
    lines_lost _ _ _ _ c.put_compared.new.sink (λ name. search rules) o.format.syntax o.limit _ (search rules) c.put_compared.ensures.short (rw c.new-lines.ensures at c.in_ok-put_compared.ensures.writes)
    (sym c.has_failed.ensures ∙ c.if-has_failed.true)

pub returns-clause-writes : goal.returns-clause-writes
returns-clause-writes g c =
    let o = c.args.self.now.options in
    let left = lines_so_far _ _ _ _ c.put_compared.new.sink (λ name. search rules) o.format.syntax o.limit _ (search rules) c.put_compared.ensures.short (rw c.new-lines.ensures at c.in_ok-put_compared.ensures.writes)
    (sym c.has_failed.ensures ∙ c.if-has_failed.false) in
    ends _ _ left (rw c.is_cut-is_cut.ensures at c.put_more.ensures)

pub returns-in_err-put_compared-clause-short : goal.returns-in_err-put_compared-clause-short
returns-in_err-put_compared-clause-short g c = limited_short _ _ _ c.put_compared.ensures.short

pub returns-then-has_failed-clause-short : goal.returns-then-has_failed-clause-short
returns-then-has_failed-clause-short g c = limited_short _ _ _ c.put_compared.ensures.short

pub returns-clause-short : goal.returns-clause-short
returns-clause-short g c = limited_short _ _ _ c.put_compared.ensures.short
