use Rattle.std.proofs.lemmas.Result.{err_from_is_err_and}
use Rattle.oas_num.proofs.HalfwayLemmas.{at_image, image_took, is_read}
use Rattle.oas_standard.specs.Little.{FourTook, EightTook}
use Rattle.oas_standard.specs.Properties.{real_value, single_value, double_value}
use Rattle.oas_standard.specs.Reals.{fraction}
use Rattle.oas_standard.proofs.ReadingLemmas.{unequal}
use Rattle.oas_standard.proofs.properties.read_real_value.Goals as goal

pub returns-in_err-single : goal.returns-in_err-single
returns-in_err-single g c =
    let p = err_from_is_err_and c.from_residual.result c.from_residual.ensures.1 in
    rw (p.1, p.2) (rw c.if-kind-eq6.true (image_took {f = single_value} c.in_err-single.ensures))

pub returns-then-kind-eq6 : goal.returns-then-kind-eq6
returns-then-kind-eq6 g c = rw c.if-kind-eq6.true (is_read (at_image {f = single_value} {took = FourTook} _) c.in_ok-single.ensures)

pub returns-in_err-double : goal.returns-in_err-double
returns-in_err-double g c =
    let p = err_from_is_err_and c.from_residual-in_err-double.result c.from_residual-in_err-double.ensures.1 in
    rw (p.1, p.2) (rw c.if-kind-eq7.true (image_took {f = double_value} c.in_err-double.ensures))

pub returns-then-kind-eq7 : goal.returns-then-kind-eq7
returns-then-kind-eq7 g c = rw c.if-kind-eq7.true (is_read (at_image {f = double_value} {took = EightTook} _) c.in_ok-double.ensures)

pub returns-in_err-real : goal.returns-in_err-real
returns-in_err-real g c =
    let p = err_from_is_err_and c.from_residual-in_err-real.result c.from_residual-in_err-real.ensures.1 in
    rw (p.1, p.2) (rw (unequal c.if-kind-eq6.false, unequal c.if-kind-eq7.false) (image_took {f = real_value} c.in_err-real.ensures))

pub returns : goal.returns
returns g c = rw (unequal c.if-kind-eq6.false, unequal c.if-kind-eq7.false) (is_read (at_image {f = real_value} {took = (fraction c.args.kind).took} _) c.in_ok-real.ensures)
