-- The records of a block's data.
use Rattle.std.proofs.Common.{◌≡◌, ◌≢◌, ℕ, ◌+◌, ◌-◌, ◌%◌, ◌^◌, ◌<◌, ◌≤◌, Bool, true, false, List, [], ◌∷◌, ◌++◌, length, Option, None, Some, ◌⊎◌, inl, inr, refl, sym, ap, subst, ◌∙◌, append_assoc, arith}
use Rattle.std.specs.Prelude.{nat_lt, replicate}
use Rattle.std.proofs.lemmas.Bool.{le-ltb, cases_lt}
use Rattle.std.proofs.lemmas.List.{append-nil, length-append, length-replicate, append_cancel_left, take_all}
use Rattle.oas_narrow.specs.Zeros.{StopsIn, StopsAt}
use Rattle.oas_num.specs.Reading.{ReadsValue}
use Rattle.oas_num.specs.Script.{Script, Rest, Gave, Consumed, slice_script}
use Rattle.oas_num.proofs.ReadLemmas.{Consumed-none, Consumed-then, Consumed-still}
use Rattle.oas_elements.specs.declared.limits.Limits.{Limits}
use Rattle.oas_narrow.specs.Stores.{Store}
use Rattle.oas_narrow.specs.WideRecord.{WideRecord}
use Rattle.oas_narrow.specs.declared.dropping.Dropping.{Dropping}
use Rattle.oas_narrow.specs.Preparable.{AllPrepared}
use Rattle.oas_narrow.specs.WideFiles.{inner_in}
use Rattle.oas_prepare.specs.Inside.{HasInner, IsLast}
use Rattle.oas_prepare.specs.Places.{pads, NoPadLast, AsRun, AsOther}
use Rattle.oas_prepare.specs.Taking.{State, Stands, SameRun, obstacle_next}
use Rattle.oas_num.proofs.GrammarLemmas.{IsEach-push}
use Rattle.oas_prepare.proofs.Fronts.{allowed_more}
use Rattle.oas_prepare.proofs.Items.{none_long}
use Rattle.oas_prepare.proofs.Pads.{stands_pads, prepared_pads}
use Rattle.oas_prepare.proofs.Runs.{each_more, each_pads, no_pad, zeros_begin, next_part, within_part}

-- ---- the source of a slice

abbrev pub source_of : List ℕ → Script
source_of plain = slice_script plain (length plain) 0

-- it gave some of the bytes, and will give the rest
pub record HasGiven (plain bytes : List ℕ) (s : Script) : Type 0 where
  pub left : List ℕ
  pub joined : plain ≡ bytes ++ left
  pub rest : s.rest ≡ Some (record { bytes = left; goes_on = false })
  pub given : s.given ≡ length bytes
  pub reliable : s.reliable ≡ true

not_less : (n : ℕ) → nat_lt n n ≡ false
not_less n = le-ltb n n (omega arith)

pub has_given : (plain bytes : List ℕ) (s : Script) → Consumed (source_of plain) bytes s → HasGiven plain bytes s
has_given plain bytes s t = by s.rest refl t.rest where
  by : (rest : Option Rest) → s.rest ≡ rest → Gave (source_of plain).rest bytes rest → HasGiven plain bytes s
  by None is g = absurd g
  by (Some r) is g = record {
    left = r.bytes;
    joined = sym (take_all (length plain) plain (omega arith)) ∙ g.0;
    rest = is ∙ ap (λ (b : Bool). Some (record { bytes = r.bytes; goes_on = b })) (g.1 ∙ not_less (length plain));
    given = omega (arith, t.given);
    reliable = t.reliable;
  }

-- where nothing is taken the place stays
pub kept_at : {at : ℕ} {old new : Script} → at ≡ old.given → Consumed old [] new → at ≡ new.given
kept_at e takes = omega (arith, e, takes.given)

-- ---- records of the data

-- after these bytes of the data a run begins where a zero comes next
abbrev pub MayBegin : Bool → List ℕ → List ℕ → Type 0
MayBegin in_end plain bytes = (rest : List ℕ) → plain ≡ bytes ++ 0 ∷ rest → (length bytes % 2 ^ 20 ≡ 0) ⊎ NoPadLast in_end bytes

-- some records of the data were taken
pub record HasSome {C : Type 0} (t : Store C) (in_end : Bool) (first : State C) (records : List WideRecord) (plain : List ℕ) (s : Script) (p : State C) (last : Option ℕ) : Type 0 where
  pub bytes : List ℕ
  pub takes : Consumed (source_of plain) bytes s
  pub made : HasInner t in_end first records bytes p
  pub ends : IsLast first.reader.limits first.dropping in_end records bytes last
  pub runs : MayBegin in_end plain bytes

pub some_none : {C : Type 0} (t : Store C) (in_end : Bool) (first : State C) (records : List WideRecord) (plain : List ℕ) → Stands t first records → AllPrepared first.reader.limits first.dropping records →
    HasSome t in_end first records plain (source_of plain) first None
some_none t in_end first records plain stands prepared = record {
  bytes = [];
  takes = Consumed-none (source_of plain);
  made = record {
    inner = [];
    each = refl;
    prepared = subst (AllPrepared first.reader.limits first.dropping) (sym (append-nil records)) prepared;
    stands = subst (Stands t first) (sym (append-nil records)) stands;
    same = record { unit = refl; limits = refl; dropping = refl };
  };
  ends = refl;
  runs = λ rest e. inl refl;
}

module _ {C : Type 0} {t : Store C} {in_end : Bool} {first : State C} {records : List WideRecord} {plain : List ℕ} {mid : Script} {p : State C} {last : Option ℕ} (m : HasSome t in_end first records plain mid p last) where
  abbrev limits : Limits
  limits = first.reader.limits

  abbrev dropping : Dropping
  dropping = first.dropping

  abbrev before : List WideRecord
  before = records ++ m.made.inner

  abbrev pub here : HasGiven plain m.bytes mid
  here = has_given plain m.bytes mid m.takes

  -- no zero comes next
  stops_here : StopsAt mid.rest → (rest : List ℕ) → here.left ≡ 0 ∷ rest → ⊥
  stops_here stops rest e = subst StopsIn e (subst StopsAt here.rest stops) refl

  -- all of them
  pub some_all : mid.given ≡ length plain → HasInner t in_end first records plain p × IsLast limits dropping in_end records plain last
  some_all end = subst (λ (b : List ℕ). HasInner t in_end first records b p × IsLast limits dropping in_end records b last) all (m.made, m.ends) where
    none : here.left ≡ []
    none = none_long here.left (omega (arith, end, here.given, ap length here.joined, length-append m.bytes here.left))

    all : m.bytes ≡ plain
    all = sym (append-nil m.bytes) ∙ ap (λ (c : List ℕ). m.bytes ++ c) (sym none) ∙ sym here.joined

  module _ {new : Script} {bytes : List ℕ} (takes : Consumed mid bytes new) where
    abbrev pub then : HasGiven plain (m.bytes ++ bytes) new
    then = has_given plain (m.bytes ++ bytes) new (Consumed-then (source_of plain) mid new m.bytes bytes m.takes takes)

    pub left_is : here.left ≡ bytes ++ then.left
    left_is = append_cancel_left m.bytes here.left (bytes ++ then.left) (sym here.joined ∙ then.joined ∙ append_assoc m.bytes bytes then.left)

    -- nor after them
    stops_at : StopsAt new.rest → (rest : List ℕ) → then.left ≡ 0 ∷ rest → ⊥
    stops_at stops rest e = subst StopsIn e (subst StopsAt then.rest stops) refl

  -- under the limits of the first
  pub same_next : (w : WideRecord) → obstacle_next p.reader.limits p.dropping before w ≡ obstacle_next limits dropping before w
  same_next w = ap (λ (b : Limits × Dropping). obstacle_next b.0 b.1 before w) (λ i. (m.made.same.limits i, m.made.same.dropping i))

  -- nothing more was taken
  pub some_kept : {now : Script} → Consumed mid [] now → HasSome t in_end first records plain now p last
  some_kept takes = record {
    bytes = m.bytes;
    takes = Consumed-still m.takes takes;
    made = m.made;
    ends = m.ends;
    runs = m.runs;
  }

  -- this many PADs were taken, up to the next multiple or to what isn't one
  pub some_pads : (at : ℕ) → at ≡ mid.given → (count : ℕ) → 0 < count → count ≤ 2 ^ 20 - at % 2 ^ 20 → {new : Script} → Consumed mid (replicate count 0) new → (count < 2 ^ 20 - at % 2 ^ 20 → StopsAt new.rest) →
      HasSome t in_end first records plain new p (Some at)
  some_pads at is_at count some few {new = new} takes stops = record {
    bytes = m.bytes ++ zeros;
    takes = Consumed-then (source_of plain) mid new m.bytes zeros m.takes takes;
    made = record {
      inner = m.made.inner ++ pads count;
      each = each_more (inner_in in_end) m.made.inner (pads count) m.bytes zeros m.made.each (each_pads in_end count);
      prepared = prepared;
      stands = subst (Stands t p) (append_assoc records m.made.inner (pads count)) (stands_pads count m.made.stands);
      same = m.made.same;
    };
    ends = record {
      before = m.bytes;
      last = zeros;
      inner = m.made.inner;
      ws = pads count;
      place = is_at ∙ here.given;
      joined = refl;
      each = m.made.each;
      one = AsRun count (record { some = some; begins = begins; within = within_part (length m.bytes) count (subst (λ n. count ≤ 2 ^ 20 - n % 2 ^ 20) is_before few) }) refl refl;
      prepared = prepared;
    };
    runs = λ rest e. by rest e (cases_lt count (2 ^ 20 - at % 2 ^ 20));
  } where
    zeros : List ℕ
    zeros = replicate count 0

    is_before : at ≡ length m.bytes
    is_before = is_at ∙ here.given

    prepared : AllPrepared limits dropping (records ++ (m.made.inner ++ pads count))
    prepared = subst (AllPrepared limits dropping) (append_assoc records m.made.inner (pads count)) (prepared_pads count limits dropping before m.made.prepared)

    begins : (length m.bytes % 2 ^ 20 ≡ 0) ⊎ NoPadLast in_end m.bytes
    begins =
        let z = zeros_begin count some (then takes).left in
        m.runs z.0 (here.joined ∙ ap (λ (c : List ℕ). m.bytes ++ c) (left_is takes ∙ z.1))

    by : (rest : List ℕ) → plain ≡ (m.bytes ++ zeros) ++ 0 ∷ rest → (count < 2 ^ 20 - at % 2 ^ 20) ⊎ (2 ^ 20 - at % 2 ^ 20 ≤ count) → (length (m.bytes ++ zeros) % 2 ^ 20 ≡ 0) ⊎ NoPadLast in_end (m.bytes ++ zeros)
    by rest e (inl less) =
        absurd (stops_at takes (stops less) rest (append_cancel_left (m.bytes ++ zeros) (then takes).left (0 ∷ rest) (sym (then takes).joined ∙ e)))
    by rest e (inr all) = inl (ap (λ n. n % 2 ^ 20) counted ∙ next_part at count all few) where
      counted : length (m.bytes ++ zeros) ≡ at + count
      counted = length-append m.bytes zeros ∙ (λ i. sym is_before i + length-replicate {A = ℕ} count 0 i)

  -- one more is read and taken, where no zero comes next
  pub some_more : (at : ℕ) → at ≡ mid.given → StopsAt mid.rest → {new : Script} {w : WideRecord} → ReadsValue (inner_in in_end) mid w new → (after : State C) →
      (obstacle_next p.reader.limits p.dropping before w ≡ None) × Stands t after (before ++ w ∷ []) → SameRun p after → HasSome t in_end first records plain new after (Some at)
  some_more at is_at stops {new = new} {w = w} read after h same = record {
    bytes = m.bytes ++ read.bytes;
    takes = Consumed-then (source_of plain) mid new m.bytes read.bytes m.takes read.takes;
    made = record {
      inner = m.made.inner ++ w ∷ [];
      each = IsEach-push (inner_in in_end) m.made.inner w m.bytes read.bytes m.made.each read.spelled;
      prepared = prepared;
      stands = subst (Stands t after) (append_assoc records m.made.inner (w ∷ [])) h.1;
      same = record {
        unit = same.unit ∙ m.made.same.unit;
        limits = same.limits ∙ m.made.same.limits;
        dropping = same.dropping ∙ m.made.same.dropping;
      };
    };
    ends = record {
      before = m.bytes;
      last = read.bytes;
      inner = m.made.inner;
      ws = w ∷ [];
      place = is_at ∙ here.given;
      joined = refl;
      each = m.made.each;
      one = AsOther w read.spelled no_zero refl;
      prepared = prepared;
    };
    runs = λ rest e. inr (no_pad in_end m.made.inner w m.bytes read.bytes m.made.each read.spelled no_zero);
  } where
    no_zero : read.bytes ≢ 0 ∷ []
    no_zero e = stops_here stops (then read.takes).left (left_is read.takes ∙ ap (λ (b : List ℕ). b ++ (then read.takes).left) e)

    prepared : AllPrepared limits dropping (records ++ (m.made.inner ++ w ∷ []))
    prepared = subst (AllPrepared limits dropping) (append_assoc records m.made.inner (w ∷ [])) (allowed_more limits dropping before w m.made.prepared (sym (same_next w) ∙ h.0))
