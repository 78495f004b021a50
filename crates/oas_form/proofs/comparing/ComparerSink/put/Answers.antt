use Rattle.std.proofs.Common.{length, ap, arith}
use Rattle.oas_form.proofs.ComparingLemmas.{differs}
use Rattle.oas_form.proofs.comparing.ComparerSink.put.Goals.{in_default-via-in-Some+else-next-byte, in_default-via-in_default}
use Rattle.oas_form.proofs.comparing.ComparerSink.put.Goals as goal

pub returns-in_default : goal.returns-in_default
returns-in_default c = differs c.args.self.now c.args.byte c.if-self.false (λ more e. elim c.in_default.branch [
  | in_default-via-in-Some+else-next-byte w ↦ (let split = w.in-Some.ensures.cases in w.if-next-byte.false cc)
  | in_default-via-in_default w ↦ absurd (omega (arith, w.in_default.ensures.cases, ap length e))
])
