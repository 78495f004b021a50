-- The reason for which a block stops the file.
use Rattle.std.proofs.Common.{◌≡◌, ℕ, Bool, List, ◌++◌, refl, arith}
use Rattle.oas_num.specs.Reading.{ReadsValue}
use Rattle.oas_num.specs.Script.{Script, Consumed}
use Rattle.oas_num.proofs.ReadLemmas.{Consumed-then}
use Rattle.oas_elements.specs.declared.limits.Limits.{Limits}
use Rattle.oas_narrow.specs.Stores.{Store}
use Rattle.oas_narrow.specs.BlockHead.{BlockHead}
use Rattle.oas_narrow.specs.WideStart.{WideStart}
use Rattle.oas_narrow.specs.declared.dropping.Dropping.{Dropping}
use Rattle.oas_narrow.specs.declared.places.Place.{Place}
use Rattle.oas_narrow.specs.declared.places.Place.TheVariants.{File, Block}
use Rattle.oas_narrow.specs.declared.places.Rejection.{Rejection}
use Rattle.oas_narrow.specs.WideFiles.{head_in}
use Rattle.oas_prepare.specs.DataReasons.{DecidedBy}
use Rattle.oas_prepare.specs.Gathering.{HasGathered}
use Rattle.oas_prepare.specs.Inside.{IsAtBlock, ReasonsBlock}
use Rattle.oas_prepare.specs.Taking.{State}
use Rattle.oas_prepare.specs.Reasons.{BehindHead, DecidedAt, TheBlock, IsReasoned}

module _ {C : Type 0} {t : Store C} {origin mid : Script} {head : WideStart} {first p : State C} (m : HasGathered t origin head first mid p) {block : BlockHead} {begun : Script} (read : ReadsValue (head_in head.flag_in_end) mid block begun) where
  abbrev in_end : Bool
  in_end = head.flag_in_end

  abbrev limits : Limits
  limits = first.reader.limits

  abbrev dropping : Dropping
  dropping = first.dropping

  abbrev before : List ℕ
  before = m.bytes ++ read.bytes

  -- for the reason that the bytes decide
  pub block_reasoned : (at : ℕ) → at ≡ mid.given → {new : Script} (bytes : List ℕ) → Consumed origin bytes new → (e : Rejection) → ReasonsBlock limits dropping in_end at block begun m.records e new → IsReasoned limits dropping origin e new
  block_reasoned at is_at {new = new} bytes takes e r = record { bytes = bytes; takes = takes; decided = λ fresh. by e.place r.place r.decided fresh } where
    behind_head : (other : ℕ) (place : Place) → other ≡ at → origin.given ≡ 0 → DecidedBy limits dropping in_end m.records block begun new place e.why → BehindHead limits dropping origin new other place e.why
    behind_head other place is fresh d = record {
      bytes = before;
      start = head;
      records = m.records;
      head = block;
      begin = read.bytes;
      mid = begun;
      takes = Consumed-then origin mid begun m.bytes read.bytes m.takes read.takes;
      before = record { before = m.bytes; front = m.front; prepared = m.prepared; place = omega (arith, is, is_at, m.takes.given, fresh); joined = refl };
      begun = read.spelled;
      decided = d;
    }

    by : (place : Place) → IsAtBlock at place → DecidedBy limits dropping in_end m.records block begun new place e.why → origin.given ≡ 0 → DecidedAt limits dropping origin new bytes place e.why
    by (File other) is d fresh = TheBlock (behind_head other (File other) is fresh d)
    by (Block other within) is d fresh = behind_head other (Block other within) is fresh d
