-- Where the records of a block's data stop it.
use Rattle.std.proofs.Common.{◌≡◌, ◌≢◌, ℕ, Bool, true, false, List, [], ◌∷◌, ◌++◌, length, Option, IsTrue, inl, inr, refl, sym, ap, subst, ◌∙◌}
use Rattle.std.proofs.lemmas.List.{append-nil}
use Rattle.oas_num.specs.declared.refusals.Why.{Why}
use Rattle.oas_num.specs.declared.refusals.Why.TheVariants as why_of
use Rattle.oas_num.specs.Reading as num
use Rattle.oas_num.specs.Reading.{ReadsValue}
use Rattle.oas_num.specs.Script.{Script, Rest, Consumed, IsAtEnd, HasFailed, IsTooLong, NoneLeft}
use Rattle.oas_num.proofs.PieceLemmas.{whole_piece}
use Rattle.oas_record.specs.Found.{NoneIsSpelled}
use Rattle.oas_canon.proofs.Whole.{Cause, Bytes, End, Device, Limit, Writer, Room, cause_of}
use Rattle.oas_num.proofs.RefusingLemmas.{decides_format, ended_cut}
use Rattle.oas_elements.specs.declared.limits.Limits.{Limits}
use Rattle.oas_narrow.specs.Stores.{Store}
use Rattle.oas_narrow.specs.WideWhy.{WideWhy}
use Rattle.oas_narrow.specs.WideWhy.TheVariants as wide
use Rattle.oas_narrow.specs.WideRecord.{WideRecord}
use Rattle.oas_narrow.specs.Reasons.{plain_of}
use Rattle.oas_narrow.specs.WideRecords.{FailsWide}
use Rattle.oas_narrow.specs.declared.dropping.Dropping.{Dropping}
use Rattle.oas_narrow.specs.declared.places.Place.TheVariants.{File}
use Rattle.oas_narrow.specs.declared.places.Rejection.{Rejection}
use Rattle.oas_narrow.specs.Preparable.{AllPrepared}
use Rattle.oas_narrow.specs.WideFiles.{inner_in}
use Rattle.oas_prepare.specs.DataReasons.{DecidedInData, StopsFor, Unread as NoRecord, EndThere, BlockThere, NotPrepared}
use Rattle.oas_prepare.specs.Deciding.{decides}
use Rattle.oas_prepare.specs.Inside.{StopsInside, Unread, NotTaken, EndInside, BlockInside, IsOfData, StopsInner}
use Rattle.oas_prepare.specs.Places.{IsNext}
use Rattle.oas_prepare.specs.Taking.{State, IsStop, MayStop}
use Rattle.oas_prepare.proofs.Fronts.{allowed_last}
use Rattle.oas_prepare.proofs.Inner.{HasSome, here, then, left_is}
use Rattle.oas_prepare.proofs.Items.{record_no_block, record_no_end}
use Rattle.oas_prepare.proofs.Reasons.{obstacle_decides}
use Rattle.oas_prepare.proofs.Whole.{memory_is}
use Rattle.oas_prepare.proofs.WideLaws.{PrefixFree-inner, wide_never}

module _ {C : Type 0} {t : Store C} {in_end : Bool} {first : State C} {records : List WideRecord} {plain : List ℕ} {mid : Script} {p : State C} {last : Option ℕ} (m : HasSome t in_end first records plain mid p last) where
  abbrev limits : Limits
  limits = first.reader.limits

  abbrev dropping : Dropping
  dropping = first.dropping

  abbrev before : List WideRecord
  before = records ++ m.made.inner

  module _ {new : Script} {bytes : List ℕ} (takes : Consumed mid bytes new) where
    at_end : IsAtEnd new → (then m takes).left ≡ []
    at_end end = (subst (λ (r : Option Rest). NoneLeft r false) (then m takes).rest end.none).0

    not_failed : HasFailed new → ⊥
    not_failed failed = let e : ◌≡◌ {A = Bool} true false = sym (then m takes).reliable ∙ failed.unreliable in cc

    not_long : IsTooLong new → ⊥
    not_long long = let e : ◌≡◌ {A = Bool} false true = (subst (λ (r : Option Rest). NoneLeft r true) (then m takes).rest long.none).1 in cc

  abbrev Refused : Rejection → Type 0
  Refused e = StopsInner limits dropping in_end records plain e

  module _ (not_all : mid.given ≢ length plain) where
    goes_on : (here m).left ≢ []
    goes_on e = not_all ((here m).given ∙ ap length (sym (append-nil m.bytes) ∙ ap (λ (c : List ℕ). m.bytes ++ c) (sym e) ∙ sym (here m).joined))

    -- what stops there
    abbrev Stopped : WideWhy → Type 0
    Stopped why = StopsFor limits dropping in_end before (here m).left why

    decided : (why : WideWhy) → Stopped why → DecidedInData limits dropping in_end records plain mid.given why
    decided why stops = record {
      before = m.bytes;
      left = (here m).left;
      inner = m.made.inner;
      place = (here m).given;
      joined = (here m).joined;
      goes_on = goes_on;
      each = m.made.each;
      prepared = m.made.prepared;
      stops = stops;
    }

    wanting : (e : Rejection) → e.place ≡ File mid.given → Stopped e.why → e.why ≡ wide.Profile why_of.Memory → Refused e
    wanting e place stops is = record { within = mid.given; place = place; decided = decided e.why stops; reason = inl is }

    refused : (e : Rejection) → e.place ≡ File mid.given → Stopped e.why → IsOfData e.why → NoneIsSpelled (IsNext limits dropping in_end before) (here m).left → Refused e
    refused e place stops of none = record {
      within = mid.given;
      place = place;
      decided = decided e.why stops;
      reason = inr (
        of,
        record {
          before = m.bytes;
          left = (here m).left;
          inner = m.made.inner;
          place = (here m).given;
          joined = (here m).joined;
          goes_on = goes_on;
          each = m.made.each;
          prepared = m.made.prepared;
          no_record = none;
        },
      );
    }

    truncated_is : (why : WideWhy) → plain_of why ≡ why_of.Truncated → why ≡ wide.Profile why_of.Truncated
    truncated_is (wide.Profile reason) e = ap wide.Profile e
    truncated_is wide.ValueType e = absurd cc
    truncated_is _ e = absurd cc

    -- since nothing can be read
    unread : {new : Script} (e : Rejection) → e.place ≡ File mid.given → FailsWide in_end mid e.why new → Refused e
    unread {new = new} e place f = by (cause_of (plain_of e.why)) where
      all_taken : (why : Why) → plain_of e.why ≡ why → IsTrue (num.is_cut why) → (then m f.takes).left ≡ []
      all_taken why_of.Truncated is cut = at_end f.takes (f.truncated is)
      all_taken why_of.Read is cut = absurd (not_failed f.takes (f.device is))
      all_taken why_of.InputTooLong is cut = absurd (not_long f.takes (f.too_long is))
      all_taken _ is cut = absurd cc

      stops : Stopped e.why
      stops = NoRecord (record {
        taken = f.bytes;
        rest = (then m f.takes).left;
        joined = left_is m f.takes;
        took = whole_piece f;
        cut = λ is. (all_taken (plain_of e.why) refl is, f.cut is);
      })

      by : Cause (plain_of e.why) → Refused e
      by (Bytes is) = refused e place stops (inr is) (record {
        none = λ w front rest next j. (f.format (decides_format (plain_of e.why) is)).none w front rest (then m f.takes).left next.spelled.spelled (sym j ∙ left_is m f.takes);
      })
      by (End is) = refused e place stops (inl (truncated_is e.why is)) (record {
        none = λ w front rest next j.
            (f.cut (ended_cut (plain_of e.why) is)).none w front rest next.spelled.spelled
            (sym j ∙ left_is m f.takes ∙ ap (λ (c : List ℕ). f.bytes ++ c) (at_end f.takes (f.truncated is)) ∙ append-nil f.bytes);
      })
      by (Device is) = absurd (not_failed f.takes (f.device is))
      by (Limit is) = absurd (not_long f.takes (f.too_long is))
      by (Writer is) = absurd (wide_never in_end e.why f.bytes (whole_piece f) is)
      by (Room is) = wanting e place stops (memory_is e.why is)

    -- since it isn't prepared
    some_stops : (at : ℕ) → at ≡ mid.given → {new : Script} {w : WideRecord} → ReadsValue (inner_in in_end) mid w new → (e : Rejection) → IsStop at p.reader.limits p.dropping before w e → Refused e
    some_stops at is_at {w = w} read e stop = by (subst (λ (b : Limits × Dropping). MayStop b.0 b.1 before w e.why) (λ i. (m.made.same.limits i, m.made.same.dropping i)) stop.why) where
      place : e.place ≡ File mid.given
      place = stop.place ∙ ap File is_at

      stops : MayStop limits dropping before w e.why → Stopped e.why
      stops reason = NotPrepared (record { next = w; taken = read.bytes; rest = (then m read.takes).left; joined = left_is m read.takes; spelled = read.spelled; is = reason })

      by : MayStop limits dropping before w e.why → Refused e
      by (inl memory) = wanting e place (stops (inl memory)) memory.0
      by (inr some) = refused e place (stops (inr some)) (inr (obstacle_decides limits dropping before w e.why some)) (record {
        none = λ v front rest next j.
            let same = ((PrefixFree-inner in_end).one w v read.bytes front (then m read.takes).left rest read.spelled next.spelled (sym (left_is m read.takes) ∙ j)).1 in
            let none = allowed_last limits dropping before w (subst (λ (k : WideRecord). AllPrepared limits dropping (before ++ k ∷ [])) (sym same) next.prepared) in
            let clash = sym none ∙ some in
            cc;
      })

    -- for one of these, or since what is there is not allowed in a block
    pub some_inside : {new : Script} (e : Rejection) → StopsInside t in_end mid p e new → Refused e
    some_inside e (Unread f) = unread e f.place f.fails
    some_inside e (NotTaken o) = some_stops mid.given refl o.read e (o.stopped before m.made.stands)
    some_inside e (EndInside end is read) =
        refused e (ap (λ (x : Rejection). x.place) is)
        (EndThere (record { end = end; taken = read.bytes; rest = (then m read.takes).left; joined = left_is m read.takes; spelled = read.spelled; is = ap (λ (x : Rejection). x.why) is })) (inr (subst (λ (x : Rejection). IsTrue (decides x.why)) (sym is) refl)) (record {
          none = λ w front rest next j. record_no_end in_end w end front read.bytes rest (then m read.takes).left next.spelled read.spelled (sym j ∙ left_is m read.takes);
        })
    some_inside e (BlockInside head is read) =
        refused e (ap (λ (x : Rejection). x.place) is)
        (BlockThere (record { head = head; taken = read.bytes; rest = (then m read.takes).left; joined = left_is m read.takes; spelled = read.spelled; is = ap (λ (x : Rejection). x.why) is })) (inr (subst (λ (x : Rejection). IsTrue (decides x.why)) (sym is) refl)) (record {
          none = λ w front rest next j. record_no_block in_end w head front read.bytes rest (then m read.takes).left next.spelled read.spelled (sym j ∙ left_is m read.takes);
        })
