use Rattle.std.proofs.Common.{◌≡◌, length, drop, decimal, sym, ap, arith, length-drop, length-append}
use Rattle.std.proofs.lemmas.Fmt.{length-decimal-le}
use Rattle.oas_listing.proofs.numbers.Numbers.prepend_number.Goals as goal

pub write_digits-self-inside-requires : goal.write_digits-self-inside-requires
write_digits-self-inside-requires c =
    let held : length c.args.self.now ≡ length (drop c.self.inside.start c.self.inside.bytes) = sym (ap length c.self.view_is) in
    let left = length-drop c.self.inside.start c.self.inside.bytes in
    let digits = length-decimal-le 20 c.args.value (omega arith) (omega arith) (omega arith) in
    (omega (arith, held, left, digits), omega arith)

pub returns-clause-short : goal.returns-clause-short
returns-clause-short c =
    let held : length c.args.self.now ≡ length (drop c.self.inside.start c.self.inside.bytes) = sym (ap length c.self.view_is) in
    let digits = length-decimal-le 20 c.args.value (omega arith) (omega arith) (omega arith) in
    rw c.write_digits-self-inside.ensures.written (omega (arith, held, digits, length-append (decimal c.args.value) (drop c.self.inside.start c.self.inside.bytes)))
