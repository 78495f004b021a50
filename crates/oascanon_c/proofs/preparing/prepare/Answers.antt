use Rattle.std.proofs.Common.{refl, sym, subst}
use Rattle.oas_prepare.specs.Report.{Report}
use Rattle.oascanon_c.specs.Preparing.{IsPreparedTo}
use Rattle.oascanon_c.proofs.PreparingLemmas.{prepared_to, itself_prepared}
use Rattle.oascanon_c.proofs.preparing.prepare.Goals as goal

pub returns-in-Ok : goal.returns-in-Ok
returns-in-Ok c =
    let limits = c.in-Some.limits in
    let dropping = c.in-Some-kinds_of.dropping in
    let prepared = prepared_to limits dropping c.args.bytes.now c.in-Ok.layout c.in-Ok.report c.in-Ok.ensures.read c.put_form.ensures.layout in
    (limits, c.in-Some.ensures.limits, (dropping, sym c.in-Some-kinds_of.ensures, (_, prepared, c.put_form.ensures.puts)))

pub returns-in-Err : goal.returns-in-Err
returns-in-Err c = ((c.in-Some.limits, c.in-Some.ensures.limits, (c.in-Some-kinds_of.dropping, sym c.in-Some-kinds_of.ensures, c.in-Err.ensures.stopped)), refl)

pub returns-then-is_canonical_file : goal.returns-then-is_canonical_file
returns-then-is_canonical_file c =
    let limits = c.in-Some.limits in
    let dropping = c.in-Some-kinds_of.dropping in
    let whole = itself_prepared limits dropping c.args.bytes.now (c.is_canonical_file.ensures c.if-is_canonical_file.true) in
    let prepared = subst (λ (r : Report). IsPreparedTo limits dropping c.args.bytes.now c.args.bytes.now r) (sym c.new.ensures) whole in
    (limits, c.in-Some.ensures.limits, (dropping, sym c.in-Some-kinds_of.ensures, (_, prepared, c.put_file.ensures)))
