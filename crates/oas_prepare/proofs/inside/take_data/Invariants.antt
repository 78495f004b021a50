use Rattle.std.proofs.Common.{◌-◌, ◌^◌, List}
use Rattle.oas_narrow.specs.WideRecord.{WideRecord}
use Rattle.oas_narrow.specs.Preparable.{AllPrepared}
use Rattle.oas_prepare.specs.Taking.{Stands}
use Rattle.oas_prepare.proofs.Inner.{HasSome}
use Rattle.oas_prepare.proofs.inside.take_data.Given as goal

abbrev pub invariant-records : goal.invariant-records
invariant-records g l = record {
  some : (records : List WideRecord) → Stands g.C.CellStore.store l.fn.preparation records → AllPrepared l.fn.preparation.reader.limits l.fn.preparation.dropping records →
      HasSome g.C.CellStore.store l.flag_in_end l.fn.preparation records l.plain.items l.source l.preparation l.last;
}

abbrev pub decreases-records : goal.decreases-records
decreases-records g l = 2 ^ 64 - l.source.given
