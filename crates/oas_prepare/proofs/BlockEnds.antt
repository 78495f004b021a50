-- A block that was taken, by how its stream ends.
use Rattle.std.proofs.Common.{◌≡◌, ◌≢◌, ℕ, Bool, List, [], Option, None, Some, Result, Ok, Err, IsTrue, ◌⊎◌, inl, inr, refl, sym, ap, subst, arith}
use Rattle.oas_num.specs.declared.refusals.Why.TheVariants as why_of
use Rattle.oas_num.specs.Script.{Script, Consumed}
use Rattle.oas_narrow.specs.BlockEnd.{BlockEnd}
use Rattle.oas_narrow.specs.BlockEnd.TheVariants.{Whole, Unfinished, Other}
use Rattle.oas_narrow.specs.BlockFault.{BlockFault}
use Rattle.oas_narrow.specs.BlockFault.TheVariants as fault
use Rattle.oas_narrow.specs.Reading.{Tells, ConsumesAll, EndsBlock, FailsBlock, IsUnfinished, IsOther}
use Rattle.oas_narrow.proofs.StandsLemmas.{RepresentsNothing, nothing_stands, longer_stands, told}
use Rattle.oas_elements.specs.declared.limits.Limits.{Limits}
use Rattle.oas_narrow.specs.Stores.{Store}
use Rattle.oas_narrow.specs.BlockHead.{BlockHead}
use Rattle.oas_narrow.specs.WideWhy.{WideWhy}
use Rattle.oas_narrow.specs.WideWhy.TheVariants as wide
use Rattle.oas_narrow.specs.WideRecord.{WideRecord}
use Rattle.oas_narrow.specs.declared.dropping.Dropping.{Dropping}
use Rattle.oas_narrow.specs.declared.places.Place.{Place}
use Rattle.oas_narrow.specs.declared.places.Place.TheVariants.{Block}
use Rattle.oas_narrow.specs.declared.places.Rejection.{Rejection}
use Rattle.oas_prepare.specs.Deciding.{decides}
use Rattle.oas_prepare.specs.DataReasons.{run_out_why, why_in, fault_why, data_max, AtOne, AtLast, NotRead, NoData as NoneGiven, DecidedBy}
use Rattle.oas_prepare.specs.Inside.{IsOfData, StopsInner, ConsumesData, place_in, in_block, place_of_last, ended_by, IsAtBlock, NoData, StopsBlock, ForMemory, CutOff, ByBytes, InVain, AtInner, ReasonsBlock, ConsumesBlock}
use Rattle.oas_prepare.specs.Places.{at_file, StopsInData, IsVain}
use Rattle.oas_prepare.specs.Taking.{State}
use Rattle.oas_prepare.proofs.Packed.{vain_no_data}

no_data : {head : BlockHead} {old new : Script} (t : Tells head (λ bytes. RepresentsNothing head bytes) old new) → NoData head t.bytes
no_data t = record { within = t.within; none = λ more plain s. (t.all more s.deflated).none plain s }

-- what is no block isn't taken
pub fault_stops : {limits : Limits} {dropping : Dropping} {in_end : Bool} (at : ℕ) {head : BlockHead} {records : List WideRecord} (limit : ℕ) {old new : Script} (why : BlockFault) → FailsBlock head limit old why new →
    StopsBlock limits dropping in_end at head old records (at_file at (fault_why why)) new
fault_stops at {head = head} limit fault.Kind h = ByBytes [] h.1 (record { within = omega arith; none = λ more plain s. h.0 s.kind }) refl refl
fault_stops at {head = head} limit fault.Length h = let t = told h (longer_stands head) in ByBytes t.bytes t.takes (no_data t) refl refl
fault_stops at {head = head} limit fault.Deflate h = let t = told h (nothing_stands head) in ByBytes t.bytes t.takes (no_data t) refl refl
fault_stops at limit fault.Full h = ForMemory h.1.bytes h.1.takes refl refl
fault_stops at limit (fault.Why why_of.Truncated) h = CutOff h.0.bytes h.0.takes h.0.fewer refl h.1
fault_stops at limit (fault.Why why_of.Read) h = CutOff h.0.bytes h.0.takes h.0.fewer refl h.1
fault_stops at limit (fault.Why why_of.InputTooLong) h = CutOff h.0.bytes h.0.takes h.0.fewer refl h.1
fault_stops at limit (fault.Why why_of.Memory) h = ForMemory h.bytes h.takes refl refl
fault_stops at limit (fault.Why _) h = absurd h

-- for the reason that is its own
pub fault_reasons : {limits : Limits} {dropping : Dropping} {in_end : Bool} (at : ℕ) {head : BlockHead} {records : List WideRecord} {old new : Script} (why : BlockFault) → FailsBlock head data_max old why new →
    ReasonsBlock limits dropping in_end at head old records (at_file at (fault_why why)) new
fault_reasons at why h = record { place = refl; decided = NotRead why h refl }

-- the bytes of a block whose stream doesn't end as it should
record Vain (head : BlockHead) (plain : List ℕ) (old new : Script) : Type 0 where
  bytes : List ℕ
  takes : Consumed old bytes new
  is : IsVain head plain bytes

unfinished : (head : BlockHead) (plain : List ℕ) {old new : Script} → ConsumesAll head (λ bytes. IsUnfinished plain bytes) old new → Vain head plain old new
unfinished head plain t = record { bytes = t.bytes; takes = t.takes; is = (t.whole, inl t.is) }

other : (head : BlockHead) (plain : List ℕ) {old new : Script} → ConsumesAll head (λ bytes. IsOther head plain bytes) old new → Vain head plain old new
other head plain t = record { bytes = t.bytes; takes = t.takes; is = (t.whole, inr t.is) }

run_out_decides : (end : BlockEnd) → IsTrue (decides (run_out_why end))
run_out_decides Whole = refl
run_out_decides Unfinished = refl
run_out_decides Other = refl

kept_decides : (end : BlockEnd) (why : WideWhy) → IsTrue (decides why) → IsTrue (decides (why_in end why))
kept_decides end (wide.Profile why_of.Truncated) is = run_out_decides end
kept_decides end _ is = is

why_decides : (end : BlockEnd) (why : WideWhy) → IsOfData why → IsTrue (decides (why_in end why))
why_decides end why (inl e) = subst (λ (w : WideWhy). IsTrue (decides (why_in end w))) (sym e) (run_out_decides end)
why_decides end why (inr is) = kept_decides end why is

module _ {C : Type 0} (t : Store C) (in_end : Bool) (at : ℕ) (head : BlockHead) (old new : Script) (first p : State C) (plain : List ℕ) where
  -- all records of what such a stream gives were taken
  vain : (end : BlockEnd) (last : Option ℕ) → end ≢ Whole → Vain head plain old new → EndsBlock head data_max old plain end new → ConsumesData t in_end plain first (Ok last) p →
      ConsumesBlock t in_end at head old first (Err (record { place = place_of_last at last; why = run_out_why end })) new p
  vain end None apart v gives d = λ records stands prepared. (
    ByBytes v.bytes v.takes (vain_no_data v.is) refl (run_out_decides end),
    record { place = refl; decided = NoneGiven end apart (subst (λ (c : List ℕ). EndsBlock head data_max old c end new) (d records stands prepared).1 gives) refl },
  )
  vain end (Some within) apart v gives d = λ records stands prepared. (
    InVain v.bytes plain within v.takes v.is refl (run_out_decides end) (inr (d records stands prepared).1),
    record { place = refl; decided = record { plain = plain; end = end; gives = gives; decided = AtLast apart (d records stands prepared).1 refl } },
  )

  -- all records of the data were taken
  pub data_taken : (end : BlockEnd) (last : Option ℕ) (result : Result (Unit {0}) Rejection) → result ≡ ended_by at end last → EndsBlock head data_max old plain end new
      → ConsumesData t in_end plain first (Ok last) p → ConsumesBlock t in_end at head old first result new p
  data_taken Whole last result is h d =
      subst (λ (r : Result (Unit {0}) Rejection). ConsumesBlock t in_end at head old first r new p) (sym is)
      (omega (arith, h.takes.given), λ records stands prepared. record { bytes = h.bytes; takes = h.takes; plain = plain; is = h.block; made = (d records stands prepared).0 })
  data_taken Unfinished last result is h d =
      subst (λ (r : Result (Unit {0}) Rejection). ConsumesBlock t in_end at head old first r new p) (sym is) (vain Unfinished last (λ e. cc) (unfinished head plain h) h d)
  data_taken Other last result is h d =
      subst (λ (r : Result (Unit {0}) Rejection). ConsumesBlock t in_end at head old first r new p) (sym is) (vain Other last (λ e. cc) (other head plain h) h d)

  module _ (limits : Limits) (dropping : Dropping) (records : List WideRecord) (e : Rejection) (s : StopsInner limits dropping in_end records plain e) where
    place_is : (end : BlockEnd) → (in_block at end e).place ≡ Block at s.within
    place_is end = ap (place_in at) s.place

    abbrev Halts : BlockEnd → Type 0
    Halts end = StopsBlock limits dropping in_end at head old records (in_block at end e) new

    memory_stops : (end : BlockEnd) (bytes : List ℕ) → Consumed old bytes new → e.why ≡ wide.Profile why_of.Memory → Halts end
    memory_stops end bytes takes is = ForMemory bytes takes (subst (IsAtBlock at) (sym (place_is end)) refl) (ap (why_in end) is)

    vain_inner : (end : BlockEnd) → Vain head plain old new → Halts end
    vain_inner end v = by s.reason where
      by : (e.why ≡ wide.Profile why_of.Memory) ⊎ (IsOfData e.why × StopsInData limits dropping in_end records plain s.within) → Halts end
      by (inl is) = memory_stops end v.bytes v.takes is
      by (inr b) = InVain v.bytes plain s.within v.takes v.is (place_is end) (why_decides end e.why b.0) (inl b.1)

    inner_stops : (end : BlockEnd) → EndsBlock head data_max old plain end new → Halts end
    inner_stops Whole h = by s.reason where
      by : (e.why ≡ wide.Profile why_of.Memory) ⊎ (IsOfData e.why × StopsInData limits dropping in_end records plain s.within) → Halts Whole
      by (inl is) = memory_stops Whole h.bytes h.takes is
      by (inr b) = AtInner h.bytes plain s.within h.takes h.block (place_is Whole) (why_decides Whole e.why b.0) b.1
    inner_stops Unfinished h = vain_inner Unfinished (unfinished head plain h)
    inner_stops Other h = vain_inner Other (other head plain h)

    inner_reasons : (end : BlockEnd) → EndsBlock head data_max old plain end new → ReasonsBlock limits dropping in_end at head old records (in_block at end e) new
    inner_reasons end gives = record {
      place = subst (IsAtBlock at) (sym (place_is end)) refl;
      decided = subst (λ (place : Place). DecidedBy limits dropping in_end records head old new place (why_in end e.why)) (sym (place_is end))
          (record { plain = plain; end = end; gives = gives; decided = AtOne e.why s.decided refl });
    }

  -- or it stops at one
  pub data_stops : (end : BlockEnd) (e : Rejection) → EndsBlock head data_max old plain end new → ConsumesData t in_end plain first (Err e) p → ConsumesBlock t in_end at head old first (Err (in_block at end e)) new p
  data_stops end e h d = λ records stands prepared. let s = d records stands prepared in (
    inner_stops first.reader.limits first.dropping records e s end h,
    inner_reasons first.reader.limits first.dropping records e s end h,
  )
