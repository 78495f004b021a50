use Rattle.std.specs.Prelude.{codes}
use Rattle.std.proofs.Common.{◌≡◌, List, ℕ, [], ◌∷◌, ◌++◌, subst, sym}
use Rattle.std.proofs.lemmas.Result.{err_from_is_err_and}
use Rattle.oas_num.specs.Writing.{PutsPrefix, Writes}
use Rattle.oas_num.proofs.PuttingLemmas.{begins, first, fails_at, ends, ◌▸◌}
use Rattle.oas_preparing.specs.Kinds.{kinds}
use Rattle.oas_preparing.specs.Lines.{phrases, listed, report_line}
use Rattle.oas_preparing.proofs.PhraseLemmas.{report_line_of_some, differs}
use Rattle.oas_preparing.proofs.lines.put_report.Goals as goal

pub returns-in_err-put_pieces-clause-puts : goal.returns-in_err-put_pieces-clause-puts
returns-in_err-put_pieces-clause-puts g c =
    let p = err_from_is_err_and c.from_residual.result c.from_residual.ensures.1 in
    let line : report_line c.args.name.now c.args.report ≡ (c.as_bytes.result.now ++ codes ": left out ") ++ (listed (phrases c.args.report kinds) ++ 10 ∷ []) =
    report_line_of_some c.args.report c.args.name.now c.as_bytes.result.now c.as_bytes.ensures.value (differs c.args.report c.new.result c.if-eq.ensures c.new.ensures) in
    rw p.1 (subst (λ (b : List ℕ). PutsPrefix g.K.Sink.given g.K.Sink.failures c.args.told.now b c.put_pieces.new.told) (sym line) (fails_at _ (begins _ _) c.in_err-put_pieces.ensures))

pub returns-in_err-put_phrases-clause-puts : goal.returns-in_err-put_phrases-clause-puts
returns-in_err-put_phrases-clause-puts g c =
    let p = err_from_is_err_and c.from_residual-in_err-put_phrases.result c.from_residual-in_err-put_phrases.ensures.1 in
    let line : report_line c.args.name.now c.args.report ≡ (c.as_bytes.result.now ++ codes ": left out ") ++ (listed (phrases c.args.report kinds) ++ 10 ∷ []) =
    report_line_of_some c.args.report c.args.name.now c.as_bytes.result.now c.as_bytes.ensures.value (differs c.args.report c.new.result c.if-eq.ensures c.new.ensures) in
    rw p.1 (subst (λ (b : List ℕ). PutsPrefix g.K.Sink.given g.K.Sink.failures c.args.told.now b c.put_phrases.new.told) (sym line)
    (fails_at _ (first _ c.in_ok-put_pieces.ensures) c.in_err-put_phrases.ensures))

pub returns-clause-puts : goal.returns-clause-puts
returns-clause-puts g c =
    let line : report_line c.args.name.now c.args.report ≡ (c.as_bytes.result.now ++ codes ": left out ") ++ (listed (phrases c.args.report kinds) ++ 10 ∷ []) =
    report_line_of_some c.args.report c.args.name.now c.as_bytes.result.now c.as_bytes.ensures.value (differs c.args.report c.new.result c.if-eq.ensures c.new.ensures) in
    subst (λ (b : List ℕ). Writes g.K.Sink.given g.K.Sink.failures c.args.told.now b c.put_all.result c.put_all.new.self) (sym line)
    (ends _ _ (first _ c.in_ok-put_pieces.ensures ▸ c.in_ok-put_phrases.ensures) c.put_all.ensures)
