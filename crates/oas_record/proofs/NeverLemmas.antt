-- No read fails with a fault of writing.
use Rattle.std.proofs.Common.{◌≡◌, ℕ, Bool, List, inl, inr}
use Rattle.std.specs.Prelude.{◌==◌}
use Rattle.oas_num.specs.declared.refusals.Why.TheVariants.{Write, OffsetFlag, Version, Unit as UnitIsRefused, OutOfPlace}
use Rattle.oas_record.specs.Kinds.{Never, number, real, pair_never}
use Rattle.oas_record.specs.Trees.{such_never}
use Rattle.oas_record.specs.Ends.{offsets_part}
use Rattle.oas_record.specs.Heads.{StartTook}
use Rattle.oas_record.specs.Records.{after}
use Rattle.oas_record.specs.Refusals.{RecordTook}

pub record_never : (in_end : Bool) (bytes : List ℕ) → RecordTook in_end Write bytes → ⊥
record_never in_end bytes (inl (inl (inl h))) = h
record_never in_end bytes (inl (inl (inr h))) = h.2
record_never in_end bytes (inl (inr b)) = (after in_end b.value).never.none b.last b.holds
record_never in_end bytes (inr e) = let is = e.0 in cc

start : Never StartTook
start =
    pair_never (such_never (λ id h. let is : Write ≡ OutOfPlace id = h.0 in cc) number.never) (λ _.
    pair_never (such_never (λ text h. let is : Write ≡ Version = h.0 in cc) (pair_never number.never (λ n. record { none = λ bytes b. b.holds.1 }))) (λ _.
    pair_never (such_never (λ r h. let is : Write ≡ UnitIsRefused = h.0 in cc) real.never) (λ _.
    pair_never (such_never (λ flag h. let is : Write ≡ OffsetFlag = h.0 in cc) number.never) (λ flag.
    (offsets_part (flag == 0)).never))))

pub start_never : (bytes : List ℕ) → StartTook Write bytes → ⊥
start_never bytes h = start.none bytes h
