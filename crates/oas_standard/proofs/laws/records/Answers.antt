use Rattle.oas_standard.proofs.WideLemmas.{PrefixFree-wide_record}
use Rattle.oas_standard.proofs.WidenedLemmas.{widen, narrowed}
use Rattle.oas_standard.proofs.laws.records.Goals as goal

pub returns : goal.returns
returns c = record { front = PrefixFree-wide_record; within = widen; back = narrowed }
