use Rattle.oas_num.specs.Style.{Any}
use Rattle.oas_record.specs.Records.{after_id}
use Rattle.oas_record.specs.Refusals.{AfterTook}
use Rattle.oas_long_integers.proofs.LongLemmas.{judged_read}
use Rattle.oas_long_integers.proofs.TameRecords.{tame_after}
use Rattle.oas_long_integers.proofs.records.read_named.Goals as goal

pub returns-clause-reads : goal.returns-clause-reads
returns-clause-reads g c = record {
  reads = λ in_end.
      let f = rw (← c.requires.starts, c.requires.first) at c.read_after-outcome.new.source.shortened in
      let law = tame_after in_end c.args.id c.requires.inner c.requires.turned in
      let r = rw (c.new-shortened.ensures.now, c.new-shortened.ensures.place, c.new-shortened.ensures.none_kept, c.new-shortened.ensures.open, c.first_of.ensures, ← c.requires.starts, c.requires.first) at c.read_after-outcome.ensures in_end in
      judged_read (after_id Any in_end c.args.id) (AfterTook in_end c.args.id) f law.cut _ _ c.judged.ensures r;
}
