use Rattle.std.proofs.Common.{refl}
use Rattle.std.proofs.lemmas.Result.{err_from_is_err_and}
use Rattle.oas_prepare.specs.Finishing.{Torn}
use Rattle.oas_prepare.proofs.preparing.finish.Goals as goal

pub returns-in_err-layout : goal.returns-in_err-layout
returns-in_err-layout g c =
    let p = err_from_is_err_and c.from_residual.result c.from_residual.ensures.1 in
    rw (p.1, p.2) (λ ws s. let h = c.in_err-layout.ensures.refused _ s.reader in Torn c.in_err-layout.field-0.0 refl h.0 (c.came_whole.ensures.right c.if-not-came_whole.false) h.1)

pub returns : goal.returns
returns g c = λ ws s. record {
  right = c.came_whole.ensures.right c.if-not-came_whole.false;
  whole = c.in_ok-layout.ensures.accepted _ s.reader;
  layout = c.in_ok-layout.ensures.layout _ s.reader;
  left_out = s.report;
}
