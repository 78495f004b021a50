use Rattle.std.proofs.Common.{rules, decimal, arith, length-append}
use Rattle.std.proofs.lemmas.Fmt.{length-decimal-le}
use Rattle.oas_listing.proofs.numbers.Numbers.prepend_signed_number.Goals as goal

pub prepend_byte-requires : goal.prepend_byte-requires
prepend_byte-requires c =
    let digits = length-decimal-le 19 c.unsigned_abs.result (omega arith) (omega arith) (omega arith) in
    rw c.prepend_number.ensures.bytes (omega (arith, digits, length-append (decimal c.unsigned_abs.result) c.args.self.now))

pub returns-then-value-lt0-clause-short : goal.returns-then-value-lt0-clause-short
returns-then-value-lt0-clause-short c =
    let digits = length-decimal-le 19 c.unsigned_abs.result (omega arith) (omega arith) (omega arith) in
    rw (c.prepend_byte.ensures, c.prepend_number.ensures.bytes) (omega (arith, digits, length-append (decimal c.unsigned_abs.result) c.args.self.now))

pub returns-then-value-lt0-clause-bytes : goal.returns-then-value-lt0-clause-bytes
returns-then-value-lt0-clause-bytes c = search rules
