use Rattle.std.proofs.lemmas.Bool.{lt-ltb, le-ltb}
use Rattle.std.proofs.lemmas.Result.{err_from_is_err_and}
use Rattle.oas_num.specs.Reading.{IntegerMay, PaddingTook}
use Rattle.oas_num.proofs.HalfwayLemmas.{at_image, image_took, is_read}
use Rattle.oas_standard.specs.Properties.{unsigned_value, signed_value, string_value, reference_value}
use Rattle.oas_standard.proofs.ReadingLemmas.{unequal}
use Rattle.oas_standard.proofs.properties.read_value_after.Goals as goal

pub returns-then-kind-lt8 : goal.returns-then-kind-lt8
returns-then-kind-lt8 g c = rw (lt-ltb _ _ c.if-kind-lt8.true) c.read_real_value.ensures

pub returns-in_err-number : goal.returns-in_err-number
returns-in_err-number g c =
    let p = err_from_is_err_and c.from_residual.result c.from_residual.ensures.1 in
    rw (p.1, p.2) (rw (c.if-kind-eq8.true) (image_took {f = unsigned_value} c.in_err-number.ensures))

pub returns-then-kind-eq8 : goal.returns-then-kind-eq8
returns-then-kind-eq8 g c = rw (c.if-kind-eq8.true) (is_read (at_image {f = unsigned_value} {took = IntegerMay} _) c.in_ok-number.ensures)

pub returns-in_err-signed : goal.returns-in_err-signed
returns-in_err-signed g c =
    let p = err_from_is_err_and c.from_residual-in_err-signed.result c.from_residual-in_err-signed.ensures.1 in
    rw (p.1, p.2) (rw (c.if-kind-eq9.true) (image_took {f = signed_value} c.in_err-signed.ensures))

pub returns-then-kind-eq9 : goal.returns-then-kind-eq9
returns-then-kind-eq9 g c = rw (c.if-kind-eq9.true) (is_read (at_image {f = signed_value} {took = IntegerMay} _) c.in_ok-signed.ensures)

pub returns-in_err-string : goal.returns-in_err-string
returns-in_err-string g c =
    let p = err_from_is_err_and c.from_residual-in_err-string.result c.from_residual-in_err-string.ensures.1 in
    rw (p.1, p.2) (rw (le-ltb _ _ c.if-kind-lt8.false, unequal c.if-kind-eq8.false, unequal c.if-kind-eq9.false, lt-ltb _ _ c.if-kind-lt13.true)
    (image_took {f = string_value} c.in_err-string.ensures))

pub returns-then-kind-lt13 : goal.returns-then-kind-lt13
returns-then-kind-lt13 g c = rw (le-ltb _ _ c.if-kind-lt8.false, unequal c.if-kind-eq8.false, unequal c.if-kind-eq9.false, lt-ltb _ _ c.if-kind-lt13.true)
    (is_read (at_image {f = string_value} {took = PaddingTook} _) c.in_ok-string.ensures)

pub returns-in_err-reference : goal.returns-in_err-reference
returns-in_err-reference g c =
    let p = err_from_is_err_and c.from_residual-in_err-reference.result c.from_residual-in_err-reference.ensures.1 in
    rw (p.1, p.2) (rw (le-ltb _ _ c.if-kind-lt8.false, unequal c.if-kind-eq8.false, unequal c.if-kind-eq9.false, le-ltb _ _ c.if-kind-lt13.false)
    (image_took {f = reference_value} c.in_err-reference.ensures))

pub returns : goal.returns
returns g c = rw (le-ltb _ _ c.if-kind-lt8.false, unequal c.if-kind-eq8.false, unequal c.if-kind-eq9.false, le-ltb _ _ c.if-kind-lt13.false)
    (is_read (at_image {f = reference_value} {took = IntegerMay} _) c.in_ok-reference.ensures)
