use Rattle.std.proofs.Common.{arith}
use Rattle.oas_num.specs.Laws.RatioLaws.{divisor_some, quotients}
use Rattle.oas_num.proofs.fractions.Fraction.reduced.Goals as goal

pub nonzero_div-result : goal.nonzero_div-result
nonzero_div-result c = divisor_some c.args.num c.args.den c.gcd-divisor.result (omega arith) c.gcd-divisor.ensures

pub nonzero_div-result-2 : goal.nonzero_div-result-2
nonzero_div-result-2 c = divisor_some c.args.num c.args.den c.gcd-divisor.result (omega arith) c.gcd-divisor.ensures

pub invariant_of-result : goal.invariant_of-result
invariant_of-result c = (quotients c.args.num c.args.den c.gcd-divisor.result (omega arith) (omega arith) c.gcd-divisor.ensures).lowest

pub returns-clause-lowest : goal.returns-clause-lowest
returns-clause-lowest c = quotients c.args.num c.args.den c.gcd-divisor.result (omega arith) (omega arith) c.gcd-divisor.ensures
