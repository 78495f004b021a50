use Rattle.std.proofs.Common.{◌≡◌, ◌∙◌, ℕ, List, subst, arith}
use Rattle.oas_num.specs.Writing.{Writes}
use Rattle.oas_diff_text.specs.Microns.{counted_to}
use Rattle.oas_diff_text.proofs.MicronLemmas.{length_of}
use Rattle.oas_diff_text.proofs.microns.put_length.Goals as goal

pub returns : goal.returns
returns g c =
    let many : c.min-counted.result ≡ counted_to c.args.steps = omega (arith, c.min-counted.ensures, c.from.ensures) in
    subst (λ (bs : List ℕ). Writes g.K.Sink.given g.K.Sink.failures c.args.sink.now bs c.put_quotient.result c.put_quotient.new.sink)
    (length_of c.args.unit c.args.steps c.min-counted.result c.from-2.result c.num.result many (c.from-2.ensures ∙ c.den.ensures.value) c.num.ensures.value)
    c.put_quotient.ensures
