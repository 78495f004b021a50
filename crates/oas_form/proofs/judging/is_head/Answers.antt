use Rattle.std.proofs.Common.{◌≡◌, ℕ, ◌↔◌, IsTrue}
use Rattle.std.proofs.Common.{subst}
use Rattle.oas_num.specs.Ratio.{Ratio}
use Rattle.oas_form.specs.Bytes.{head_bytes}
use Rattle.oas_form.proofs.ComparingLemmas.{spelled}
use Rattle.oas_form.proofs.judging.is_head.Goals as goal

unit_is : (u : Ratio) (num den : ℕ) → num ≡ u.num → den ≡ u.den → record { num = num; den = den } ≡ u
unit_is u num den n d = λ i. record { num = n i; den = d i }

pub returns : goal.returns
returns c = subst (λ (u : Ratio). IsTrue c.is_done.result ↔ (head_bytes u ≡ c.args.bytes.now)) (unit_is c.args.unit c.num.result c.den.result c.num.ensures.value c.den.ensures.value)
    (spelled c.new-comparer.result c.put_head.new.sink _ _ c.put_head.result c.is_done.result c.new-comparer.ensures.rest c.new-comparer.ensures.same c.put_head.ensures.counts c.is_done.ensures)
