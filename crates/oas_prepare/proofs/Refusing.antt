-- What a rejection says, from where the bytes go wrong.
use Rattle.std.proofs.Common.{◌≡◌, ℕ, List, [], ◌++◌, refl, sym, subst, ◌∙◌, append_assoc, arith}
use Rattle.std.proofs.lemmas.List.{append_cancel_left}
use Rattle.oas_num.specs.declared.refusals.Why.{Why}
use Rattle.oas_num.specs.declared.refusals.Why.TheVariants.{Memory, FloatReal}
use Rattle.oas_num.specs.Reading.{FailsPiece, Fails, ReadsValue}
use Rattle.oas_num.specs.Script.{Script, Consumed}
use Rattle.oas_num.specs.Ratio.{Ratio}
use Rattle.oas_num.proofs.PrefixLemmas.{pair_then}
use Rattle.oas_num.proofs.ReadLemmas.{Consumed-none, Consumed-then}
use Rattle.oas_num.proofs.PieceLemmas.{whole_piece}
use Rattle.oas_num.proofs.RefusingLemmas.{memory_not, not_writing, none_is_spelled, read_refused, Decided, judged_refused}
use Rattle.oas_record.specs.Heads.{magic, IsMagic, MagicMay}
use Rattle.oas_elements.specs.declared.limits.Limits.{Limits}
use Rattle.oas_narrow.specs.WideStart.{WideStart}
use Rattle.oas_narrow.specs.WideRecord.{WideRecord}
use Rattle.oas_narrow.specs.WideRecord.TheVariants.{End, Block}
use Rattle.oas_narrow.specs.WideWhy.{WideWhy}
use Rattle.oas_narrow.specs.WideWhy.TheVariants as wide
use Rattle.oas_narrow.specs.Heads.{SpellsWideStart, WideStartTook, wide_start}
use Rattle.oas_narrow.specs.Reasons.{plain_of}
use Rattle.oas_narrow.specs.WideRecords.{FailsWide}
use Rattle.oas_narrow.specs.declared.dropping.Dropping.{Dropping}
use Rattle.oas_narrow.specs.declared.places.Place.{Place}
use Rattle.oas_narrow.specs.declared.places.Place.TheVariants.{File}
use Rattle.oas_narrow.specs.declared.places.Rejection.{Rejection}
use Rattle.oas_narrow.specs.Preparable.{IsUnitOf, AllPrepared, Formed, Preparable}
use Rattle.oas_narrow.specs.WideFiles.{WideParts, wide_file, WidePrefixOf}
use Rattle.oas_prepare.specs.Heads.{HasStarted}
use Rattle.oas_prepare.specs.Places.{at_file, ByMagic, ByStart, ByRecord, IsPlace}
use Rattle.oas_prepare.specs.Reasons.{TheMagic, TheStart, TheUnit, TheRecord}
use Rattle.oas_prepare.specs.Run.{IsPlaced, Stops}
use Rattle.oas_prepare.proofs.Fronts.{front_none, magic_expected, start_expected, file_expects, file_start}
use Rattle.oas_prepare.proofs.WideLaws.{wide_never}

-- a file that is prepared is spelled
spelled : {limits : Limits} {dropping : Dropping} (b : List ℕ) → Preparable limits dropping b → (v : WideParts) × wide_file v b
spelled b a = ((a.formed.start, (a.formed.file.items, a.formed.end)), a.formed.file.spelled)

-- an offset in the file
pub there_at : (old : Script) (bytes : List ℕ) {at : ℕ} {place : Place} → place ≡ File at → IsPlace old bytes place
there_at old bytes e = subst (λ (p : Place). IsPlace old bytes p) (sym e) tt

-- out of memory has no place
pub memory_placed : {limits : Limits} {dropping : Dropping} {old new : Script} (rejection : Rejection) (bytes : List ℕ) → Consumed old bytes new → IsPlace old bytes rejection.place
    → plain_of rejection.why ≡ Memory → IsPlaced limits dropping old rejection new
memory_placed rejection bytes takes there e = record {
  bytes = bytes;
  takes = takes;
  there = there;
  placed = λ fresh is. absurd (memory_not (plain_of rejection.why) e is);
}

-- ---- the head

-- START that was read is the only one there
no_unit : {mid new : Script} {start : WideStart} (read : ReadsValue SpellsWideStart mid start new) → ((unit : Ratio) → IsUnitOf start.unit unit → ⊥) → (more : List ℕ) (v : WideStart) (front rest : List ℕ) (unit : Ratio)
    → SpellsWideStart v front → IsUnitOf v.unit unit → read.bytes ++ more ≡ front ++ rest → ⊥
no_unit {start = start} read none more v front rest unit s is e =
    let same : start ≡ v = (wide_start.found.one.one start v read.bytes front more rest read.spelled s e).1 in
    none unit (subst (λ (w : WideStart). IsUnitOf w.unit unit) (sym same) is)

module _ {limits : Limits} {dropping : Dropping} {old new : Script} where
  pub magic_stops : (why : Why) → Fails IsMagic MagicMay old why new → Stops limits dropping old (at_file 0 (wide.Profile why)) new
  magic_stops why f = (
    read_refused spelled [] magic_expected (Consumed-none old) f (not_writing why MagicMay f.reason.last (λ h. h) f.reason.holds),
    record {
      bytes = f.bytes;
      takes = f.takes;
      there = tt;
      placed = λ fresh is more ended. ByMagic (record { place = refl; differs = λ rest. none_is_spelled f is more ended tt magic rest refl });
    },
    record { bytes = f.bytes; takes = f.takes; decided = λ fresh. TheMagic (record { plain = why; is = refl; place = refl; decides = f.reason; cut = f.cut }) },
  )

  module _ {mid : Script} (first : Consumed old magic mid) where
    pub start_stops : (why : Why) → FailsPiece SpellsWideStart WideStartTook mid why new → Stops limits dropping old (at_file 13 (wide.Profile why)) new
    start_stops why f = (
      read_refused spelled magic start_expected first f (not_writing why WideStartTook f.bytes (wide_start.never.none f.bytes) (whole_piece f)),
      record {
        bytes = magic ++ f.bytes;
        takes = Consumed-then old mid new magic f.bytes first f.takes;
        there = tt;
        placed = λ fresh is more ended. ByStart (record {
          left = f.bytes ++ more;
          place = refl;
          joined = append_assoc magic f.bytes more;
          none = record { none = λ v front rest s. none_is_spelled f is more ended v front rest s.spelled };
        });
      },
      record {
        bytes = magic ++ f.bytes;
        takes = Consumed-then old mid new magic f.bytes first f.takes;
        decided = λ fresh. TheStart (record { plain = why; left = f.bytes; is = refl; place = refl; joined = refl; took = whole_piece f; cut = f.cut });
      },
    )

    -- a unit that is no fraction of the profile
    module _ {start : WideStart} (read : ReadsValue SpellsWideStart mid start new) (none : (unit : Ratio) → IsUnitOf start.unit unit → ⊥) where
      not_formed : (more : List ℕ) → Formed limits dropping ((magic ++ read.bytes) ++ more) → ⊥
      not_formed more a =
          let s = file_start a.file in
          no_unit read none more a.start s.front s.rest a.unit s.spelled a.is_unit (append_cancel_left magic (read.bytes ++ more) (s.front ++ s.rest) (sym (append_assoc magic read.bytes more) ∙ s.joined))

      pub unit_stops : Stops limits dropping old (at_file 13 (wide.Profile FloatReal)) new
      unit_stops = (
        judged_refused (Consumed-then old mid new magic read.bytes first read.takes) (Decided refl (λ more a. not_formed more a.formed)),
        record {
          bytes = magic ++ read.bytes;
          takes = Consumed-then old mid new magic read.bytes first read.takes;
          there = tt;
          placed = λ fresh of_file more ended. ByStart (record {
            left = read.bytes ++ more;
            place = refl;
            joined = append_assoc magic read.bytes more;
            none = record { none = λ v front rest s e. no_unit read none more v front rest s.unit s.spelled s.is_unit e };
          });
        },
        record {
          bytes = magic ++ read.bytes;
          takes = Consumed-then old mid new magic read.bytes first read.takes;
          decided = λ fresh. TheUnit (record { left = read.bytes; start = start; is = refl; place = refl; joined = refl; spelled = read.spelled; none = none });
        },
      )

-- ---- a record

module _ {limits : Limits} {dropping : Dropping} {origin mid new : Script} {head : WideStart} {ws : List WideRecord} {bytes : List ℕ} where
  -- neither a record nor END can be read
  pub record_stops : (at : ℕ) (why : WideWhy) → WidePrefixOf head ws bytes → AllPrepared limits dropping ws → Consumed origin bytes mid → at ≡ mid.given
      → FailsWide head.flag_in_end mid why new → Stops limits dropping origin (at_file at why) new
  record_stops at why front prepared takes is_at f = (
    read_refused spelled bytes (file_expects front) takes f (wide_never head.flag_in_end why f.bytes (whole_piece f)),
    record {
      bytes = bytes ++ f.bytes;
      takes = Consumed-then origin mid new bytes f.bytes takes f.takes;
      there = tt;
      placed = λ fresh is more ended. ByRecord (record {
        left = f.bytes ++ more;
        start = head;
        records = ws;
        before = record { before = bytes; front = front; prepared = prepared; place = omega (arith, is_at, takes.given, fresh); joined = append_assoc bytes f.bytes more };
        no_end = record { none = λ e front rest s. none_is_spelled f is more ended (End e) front rest s };
        no_record = record { none = λ w front rest s. none_is_spelled f is more ended w front rest s.spelled.spelled };
        no_block = record { none = λ b front rest s e. none_is_spelled f is more ended (Block b.0) s.front (s.back ++ rest) s.first (e ∙ pair_then s rest) };
      });
    },
    record {
      bytes = bytes ++ f.bytes;
      takes = Consumed-then origin mid new bytes f.bytes takes f.takes;
      decided = λ fresh. TheRecord (record {
        left = f.bytes;
        start = head;
        records = ws;
        before = record { before = bytes; front = front; prepared = prepared; place = omega (arith, is_at, takes.given, fresh); joined = refl };
        took = whole_piece f;
        cut = f.cut;
      });
    },
  )

-- ---- what was read of the head

pub magic_taken : {old mid : Script} {done : Unit {0}} → ReadsValue IsMagic old done mid → Consumed old magic mid
magic_taken {old = old} {mid = mid} read = subst (λ (b : List ℕ). Consumed old b mid) read.spelled read.takes

pub started : {old mid new : Script} {start : WideStart} {unit : Ratio} → Consumed old magic mid → ReadsValue SpellsWideStart mid start new → IsUnitOf start.unit unit → HasStarted old start unit new
started {old = old} {mid = mid} {new = new} {start = start} first read is = record {
  bytes = magic ++ read.bytes;
  takes = Consumed-then old mid new magic read.bytes first read.takes;
  front = front_none (magic ++ read.bytes) (record { from = (tt, start); is = refl; spelled = record { front = magic; back = read.bytes; first = refl; second = read.spelled; joined = refl } });
  is_unit = is;
}
