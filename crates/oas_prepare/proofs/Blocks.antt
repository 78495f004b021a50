-- A block that was taken, or stops the file.
use Rattle.std.proofs.Common.{◌≡◌, ℕ, ◌<◌, Bool, List, [], ◌++◌, length, IsTrue, ◌⊎◌, refl, sym, ap, subst, ◌∙◌, append_assoc, arith}
use Rattle.std.proofs.lemmas.List.{append-nil}
use Rattle.oas_num.specs.declared.refusals.Why.{Why}
use Rattle.oas_num.specs.declared.refusals.Why.TheVariants as why_of
use Rattle.oas_num.specs.Grammar.{IsEach}
use Rattle.oas_num.specs.Reading.{ReadsValue}
use Rattle.oas_num.specs.Script.{Script, Consumed}
use Rattle.oas_num.proofs.ReadLemmas.{Consumed-then}
use Rattle.oas_num.proofs.PrefixLemmas.{Follows, ByItem, ByEnd}
use Rattle.oas_num.proofs.RefusingLemmas.{ForMemory as Wanting, Decided, judged_refused, StoppedBy, stopped_not, stopped_refused}
use Rattle.oas_narrow.specs.Blocks.{Represents}
use Rattle.oas_elements.specs.declared.limits.Limits.{Limits}
use Rattle.oas_narrow.specs.Stores.{Store}
use Rattle.oas_narrow.specs.BlockHead.{BlockHead}
use Rattle.oas_narrow.specs.WideEnd.{WideEnd}
use Rattle.oas_narrow.specs.WideStart.{WideStart}
use Rattle.oas_narrow.specs.WideWhy.{WideWhy}
use Rattle.oas_narrow.specs.WideWhy.TheVariants as wide
use Rattle.oas_narrow.specs.WideRecord.{WideRecord}
use Rattle.oas_narrow.specs.Reasons.{plain_of}
use Rattle.oas_narrow.specs.declared.dropping.Dropping.{Dropping}
use Rattle.oas_narrow.specs.declared.places.Place.{Place}
use Rattle.oas_narrow.specs.declared.places.Place.TheVariants.{File, Block}
use Rattle.oas_narrow.specs.declared.places.Rejection.{Rejection}
use Rattle.oas_narrow.specs.Preparable.{AllPrepared, Formed}
use Rattle.oas_narrow.specs.WideFiles.{WideFileOf, wide_head, inner_in, head_in, AsRecord, AsBlock, records_of}
use Rattle.oas_prepare.specs.Deciding.{decides}
use Rattle.oas_prepare.specs.Gathering.{HasGathered}
use Rattle.oas_prepare.specs.Inside.{HasTaken, IsAtBlock, IsCutBy, NoData, StopsBlock, ForMemory, CutOff, ByBytes, InVain, AtInner, ReasonsBlock}
use Rattle.oas_prepare.specs.Places.{at_file, ByRecord, StopsInData, EndsInData, IsVain, StopsInBytes, ByData, ByStream, AtBlock, StopsAt, StopsInFile, IsPlace, IsBefore}
use Rattle.oas_prepare.specs.Run.{IsStopped, IsPlaced, Stops}
use Rattle.oas_prepare.specs.Taking.{State}
use Rattle.oas_prepare.proofs.BlockReasons.{block_reasoned}
use Rattle.oas_prepare.proofs.Fronts.{allowed_prefix, item_of, end_of, front_more, goes_on, records_then}
use Rattle.oas_prepare.proofs.Items.{record_no_block, block_no_end}
use Rattle.oas_prepare.proofs.Refusing.{memory_placed, there_at}
use Rattle.oas_prepare.proofs.Packed.{Behind, behind, few_bytes, no_data, vain_no_data, one_plain, not_inner}

-- it stops there, whatever the reason
abbrev Halts : Limits → Dropping → Script → Rejection → Script → Type 0
Halts limits dropping old e new = IsStopped limits dropping old e.why new × IsPlaced limits dropping old e new

-- ---- a file that goes on after a block's head

-- with a block of that head
record GoesOn (in_end : Bool) (block : BlockHead) (before : List WideRecord) (bytes : List ℕ) (all : List WideRecord) : Type 0 where
  plain : List ℕ
  rest : List ℕ
  inner : List WideRecord
  tail : List WideRecord
  behind : Behind block plain bytes rest
  each : IsEach (inner_in in_end) inner plain
  records : all ≡ before ++ (inner ++ tail)

module _ {C : Type 0} {t : Store C} {origin mid : Script} {head : WideStart} {first p : State C} (m : HasGathered t origin head first mid p) {block : BlockHead} {begun : Script} (read : ReadsValue (head_in head.flag_in_end) mid block begun) where
  abbrev in_end : Bool
  in_end = head.flag_in_end

  abbrev limits : Limits
  limits = first.reader.limits

  abbrev dropping : Dropping
  dropping = first.dropping

  abbrev before : List ℕ
  before = m.bytes ++ read.bytes

  taken : {new : Script} (bytes : List ℕ) → Consumed begun bytes new → Consumed origin (before ++ bytes) new
  taken {new = new} bytes takes = Consumed-then origin begun new before bytes (Consumed-then origin mid begun m.bytes read.bytes m.takes read.takes) takes

  block_goes_on : {start : WideStart} {ss : List WideRecord} {end : WideEnd} {whole : List ℕ} (r bytes : List ℕ) (g : WideFileOf start ss end whole) → whole ++ r ≡ before ++ bytes → GoesOn in_end block m.records bytes ss
  block_goes_on {ss = ss} {end = end} r bytes g e = by (goes_on (read.bytes ++ bytes) r m.front g (e ∙ append_assoc m.bytes read.bytes bytes)).follows where
    by : Follows wide_head item_of end_of head m.front.items g.items end g.spelled.second.back (read.bytes ++ bytes) r → GoesOn in_end block m.records bytes ss
    by (ByItem ws tail front more is (AsRecord w same one) stands) = absurd (record_no_block in_end w block front read.bytes more bytes one read.spelled (sym stands))
    by (ByItem ws tail front more is (AsBlock b) stands) = record {
      plain = b.block.1;
      rest = more;
      inner = ws;
      tail = records_of tail;
      behind = behind in_end block read.bytes bytes b.block front more read.spelled b.spelled stands;
      each = b.each;
      records = records_then m.front g ws tail is;
    }
    by (ByEnd same ends lefts) = absurd (block_no_end in_end block end read.bytes g.spelled.second.back bytes r read.spelled ends lefts)

  in_file : (bytes more : List ℕ) (a : Formed limits dropping ((before ++ bytes) ++ more)) → GoesOn in_end block m.records (bytes ++ more) a.records
  in_file bytes more a = let whole = (before ++ bytes) ++ more in block_goes_on [] (bytes ++ more) a.file (append-nil whole ∙ append_assoc before bytes more)

  inner_prepared : {bytes : List ℕ} {all : List WideRecord} (g : GoesOn in_end block m.records bytes all) → AllPrepared limits dropping all → AllPrepared limits dropping (m.records ++ g.inner)
  inner_prepared g a = allowed_prefix limits dropping (m.records ++ g.inner) g.tail (subst (AllPrepared limits dropping) (g.records ∙ sym (append_assoc m.records g.inner g.tail)) a)

  -- ---- it is taken

  pub block_more : {new : Script} {after : State C} → HasTaken t in_end block begun p m.records new after → HasGathered t origin head first new after
  block_more {new = new} {after = after} h = record {
    records = m.records ++ h.made.inner;
    bytes = m.bytes ++ (read.bytes ++ h.bytes);
    takes = subst (λ (b : List ℕ). Consumed origin b new) (append_assoc m.bytes read.bytes h.bytes) (taken h.bytes h.takes);
    front = front_more h.made.inner m.front (AsBlock (record {
      block = (block, h.plain);
      spelled = record { front = read.bytes; back = h.bytes; first = read.spelled; second = h.is; joined = refl };
      each = h.made.each;
    }));
    prepared = subst (λ (b : Limits × Dropping). AllPrepared b.0 b.1 (m.records ++ h.made.inner)) (λ i. (m.same.limits i, m.same.dropping i)) h.made.prepared;
    stands = h.made.stands;
    same = record {
      unit = h.made.same.unit ∙ m.same.unit;
      limits = h.made.same.limits ∙ m.same.limits;
      dropping = h.made.same.dropping ∙ m.same.dropping;
    };
  }

  -- ---- it stops the file

  module _ (at : ℕ) (is_at : at ≡ mid.given) {new : Script} (bytes : List ℕ) (takes : Consumed begun bytes new) where
    there : (place : Place) → IsAtBlock at place → IsPlace origin (before ++ bytes) place
    there (File other) e = tt
    there (Block other within) e = record {
      start = head;
      records = m.records;
      before = m.bytes;
      head = block;
      begin = read.bytes;
      rest = bytes;
      front = m.front;
      begun = read.spelled;
      joined = append_assoc m.bytes read.bytes bytes;
      place = e ∙ is_at ∙ m.takes.given;
    }

    is_before : (more : List ℕ) → origin.given ≡ 0 → IsBefore limits dropping ((before ++ bytes) ++ more) (read.bytes ++ (bytes ++ more)) at head m.records
    is_before more fresh = record {
      before = m.bytes;
      front = m.front;
      prepared = m.prepared;
      place = omega (arith, is_at, m.takes.given, fresh);
      joined = append_assoc before bytes more ∙ append_assoc m.bytes read.bytes (bytes ++ more);
    }

    -- at the block
    at_head : (more : List ℕ) → origin.given ≡ 0 → ((plain rest : List ℕ) → Behind block plain (bytes ++ more) rest → ⊥) → StopsInFile limits dropping ((before ++ bytes) ++ more) at
    at_head more fresh none = ByRecord (record {
      left = read.bytes ++ (bytes ++ more);
      start = head;
      records = m.records;
      before = is_before more fresh;
      no_end = record { none = λ end front rest ends e. block_no_end in_end block end read.bytes front (bytes ++ more) rest read.spelled ends e };
      no_record = record { none = λ w front rest next e. record_no_block in_end w block front read.bytes rest (bytes ++ more) next.spelled read.spelled (sym e) };
      no_block = record { none = λ b front rest s e. none b.1 rest (behind in_end block read.bytes (bytes ++ more) b front rest read.spelled s e) };
    })

    -- in it
    in_it : (more : List ℕ) (within : ℕ) → origin.given ≡ 0 → StopsInBytes limits dropping in_end m.records block bytes within → AtBlock limits dropping ((before ++ bytes) ++ more) at within
    in_it more within fresh stops = record {
      left = read.bytes ++ (bytes ++ more);
      start = head;
      records = m.records;
      before = is_before more fresh;
      head = block;
      begin = read.bytes;
      packed = bytes;
      rest = more;
      begun = read.spelled;
      joined = refl;
      stops = stops;
    }

    -- out of memory
    wanting_stops : (e : Rejection) → IsAtBlock at e.place → e.why ≡ wide.Profile why_of.Memory → Halts limits dropping origin e new
    wanting_stops e place is = (judged_refused (taken bytes takes) (Wanting (ap plain_of is)), memory_placed e (before ++ bytes) (taken bytes takes) (there e.place place) (ap plain_of is))

    -- since no block begins like this
    bytes_stop : (e : Rejection) → NoData block bytes → e.place ≡ File at → IsTrue (decides e.why) → Halts limits dropping origin e new
    bytes_stop e n place is = (
      judged_refused (taken bytes takes) (Decided is (λ more a. no_data more n (in_file bytes more a.formed).behind)),
      record {
        bytes = before ++ bytes;
        takes = taken bytes takes;
        there = there_at origin (before ++ bytes) place;
        placed = λ fresh of_file more ended. subst (StopsAt limits dropping ((before ++ bytes) ++ more)) (sym place) (at_head more fresh (λ plain rest b. no_data more n b));
      },
    )

    -- in what a stream gives that doesn't end as it should
    vain_stops : (e : Rejection) (plain : List ℕ) (within : ℕ) → IsVain block plain bytes → e.place ≡ Block at within → IsTrue (decides e.why) →
        StopsInData limits dropping in_end m.records plain within ⊎ EndsInData limits dropping in_end m.records plain within → Halts limits dropping origin e new
    vain_stops e plain within vain is decided s = (
      judged_refused (taken bytes takes) (Decided decided (λ more a. no_data more (vain_no_data vain) (in_file bytes more a.formed).behind)),
      record {
        bytes = before ++ bytes;
        takes = taken bytes takes;
        there = subst (IsPlace origin (before ++ bytes)) (sym is) (there (Block at within) refl);
        placed = λ fresh of_file more ended. subst (StopsAt limits dropping ((before ++ bytes) ++ more)) (sym is) (in_it more within fresh (ByStream plain vain s));
      },
    )

    -- at a record of its data
    inner_stops : (e : Rejection) (plain : List ℕ) (within : ℕ) → Represents block bytes plain → e.place ≡ Block at within → IsTrue (decides e.why) →
        StopsInData limits dropping in_end m.records plain within → Halts limits dropping origin e new
    inner_stops e plain within stands is decided s = (
      judged_refused (taken bytes takes) (Decided decided (λ more a. not more a.formed)),
      record {
        bytes = before ++ bytes;
        takes = taken bytes takes;
        there = subst (IsPlace origin (before ++ bytes)) (sym is) (there (Block at within) refl);
        placed = λ fresh of_file more ended. subst (StopsAt limits dropping ((before ++ bytes) ++ more)) (sym is) (in_it more within fresh (ByData plain stands s));
      },
    ) where
      not : (more : List ℕ) → Formed limits dropping ((before ++ bytes) ++ more) → ⊥
      not more a =
          let g = in_file bytes more a in
          not_inner s g.inner (subst (IsEach (inner_in in_end) g.inner) (sym (one_plain more stands g.behind)) g.each) (inner_prepared g a.prepared)

    -- since the source ended or stopped
    cut_not : length bytes < block.deflated → (front rest : List ℕ) → front ++ rest ≡ before ++ bytes → Formed limits dropping front → ⊥
    cut_not few front rest e a = few_bytes (block_goes_on rest bytes a.file e).behind few

    source_stops : (why : Why) → length bytes < block.deflated → StoppedBy why new → Halts limits dropping origin (at_file at (wide.Profile why)) new
    source_stops why few stop = (
      stopped_refused why (before ++ bytes) (taken bytes takes) stop (λ front rest e a. absurd (cut_not few front rest e a.formed)),
      record { bytes = before ++ bytes; takes = taken bytes takes; there = tt; placed = λ fresh of_file. absurd (stopped_not why new stop of_file) },
    )

    cut_stops : (why : WideWhy) → length bytes < block.deflated → IsCutBy why new → Halts limits dropping origin (at_file at why) new
    cut_stops (wide.Profile why_of.Truncated) few cut = (
      record {
        bytes = before ++ bytes;
        takes = taken bytes takes;
        decided = λ d. absurd cc;
        cut = λ _ front rest e a. absurd (cut_not few front rest e a.formed);
        truncated = λ _. (λ a. cut_not few (before ++ bytes) [] (append-nil (before ++ bytes)) a.formed, cut);
        device = λ e. absurd cc;
        too_long = λ e. absurd cc;
        reading = λ e. cc;
      },
      record {
        bytes = before ++ bytes;
        takes = taken bytes takes;
        there = tt;
        placed = λ fresh of_file more ended.
            let all : bytes ++ more ≡ bytes = ap (λ (c : List ℕ). bytes ++ c) (ended cut) ∙ append-nil bytes in
            at_head more fresh (λ plain rest b. few_bytes (subst (λ (c : List ℕ). Behind block plain c rest) all b) few);
      },
    )
    cut_stops (wide.Profile why_of.Read) few cut = source_stops why_of.Read few cut
    cut_stops (wide.Profile why_of.InputTooLong) few cut = source_stops why_of.InputTooLong few cut
    cut_stops _ few cut = absurd cut

  same_by : (at : ℕ) (e : Rejection) → e.place ≡ File at → at_file at e.why ≡ e
  same_by at e is = λ i. record { place = sym is i; why = e.why }

  -- what stops at the block or in it
  abbrev BlockEnds : ℕ → Rejection → Script → Limits × Dropping → Type 0
  BlockEnds at e new b = StopsBlock b.0 b.1 in_end at block begun m.records e new × ReasonsBlock b.0 b.1 in_end at block begun m.records e new

  pub block_stops : (at : ℕ) → at ≡ mid.given → {new : Script} (e : Rejection) → BlockEnds at e new (p.reader.limits, p.dropping) → Stops limits dropping origin e new
  block_stops at is_at {new = new} e stop = let here = subst (BlockEnds at e new) (λ i. (m.same.limits i, m.same.dropping i)) stop in let h = by here.0 in (h.0, h.1, block_reasoned m read at is_at h.0.bytes h.0.takes e here.1) where
    by : StopsBlock limits dropping in_end at block begun m.records e new → Halts limits dropping origin e new
    by (ForMemory bytes takes place is) = wanting_stops at is_at bytes takes e place is
    by (CutOff bytes takes few place cut) = subst (λ (x : Rejection). Halts limits dropping origin x new) (same_by at e place) (cut_stops at is_at bytes takes e.why few cut)
    by (ByBytes bytes takes none place is) = bytes_stop at is_at bytes takes e none place is
    by (InVain bytes plain within takes vain place is s) = vain_stops at is_at bytes takes e plain within vain place is s
    by (AtInner bytes plain within takes stands place is s) = inner_stops at is_at bytes takes e plain within stands place is s

  -- what is prepared is prepared by the limits and the names of the preparation
  pub prepared_by : AllPrepared p.reader.limits p.dropping m.records
  prepared_by = subst (λ (b : Limits × Dropping). AllPrepared b.0 b.1 m.records) (λ i. (sym m.same.limits i, sym m.same.dropping i)) m.prepared
