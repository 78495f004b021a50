-- One more record, END, or a rejection there.
use Rattle.std.proofs.Common.{◌≡◌, ℕ, [], ◌∷◌, ◌++◌, None, Some, ◌⊎◌, inl, inr, refl, sym, ap, subst, ◌∙◌, append_assoc, arith}
use Rattle.oas_num.specs.Reading.{ReadsValue}
use Rattle.oas_num.specs.Script.{Script, Consumed}
use Rattle.oas_num.specs.Ratio.{Ratio}
use Rattle.oas_num.proofs.PrefixLemmas.{pair_then}
use Rattle.oas_num.proofs.ReadLemmas.{Consumed-then}
use Rattle.oas_num.proofs.RefusingLemmas.{Judges, ForMemory, Decided, judged_refused}
use Rattle.oas_elements.specs.declared.limits.Limits.{Limits}
use Rattle.oas_narrow.specs.Stores.{Store}
use Rattle.oas_narrow.specs.WideEnd.{WideEnd}
use Rattle.oas_narrow.specs.WideStart.{WideStart}
use Rattle.oas_narrow.specs.WideWhy.{WideWhy}
use Rattle.oas_narrow.specs.WideRecord.{WideRecord}
use Rattle.oas_narrow.specs.WideRecord.TheVariants.{End}
use Rattle.oas_narrow.specs.Reasons.{plain_of}
use Rattle.oas_narrow.specs.declared.dropping.Dropping.{Dropping}
use Rattle.oas_narrow.specs.declared.places.Place.{Place}
use Rattle.oas_narrow.specs.declared.places.Place.TheVariants.{File}
use Rattle.oas_narrow.specs.declared.places.Rejection.{Rejection}
use Rattle.oas_narrow.specs.Preparable.{AllPrepared, Preparable}
use Rattle.oas_narrow.specs.WideFiles.{WidePrefixOf, inner_in, end_in, AsRecord}
use Rattle.oas_prepare.specs.Gathering.{FailsOne, HasTakenOne, StopsOne, HasGathered, HasAll}
use Rattle.oas_prepare.specs.Heads.{HasStarted}
use Rattle.oas_prepare.specs.Places.{ByRecord, StopsAt}
use Rattle.oas_prepare.specs.Reasons.{DecidedAt, TheNext, IsReasoned}
use Rattle.oas_prepare.specs.Run.{Stops, IsPlaced}
use Rattle.oas_prepare.specs.Taking.{State, Stands, SameRun, IsStop, MayStop, obstacle_next}
use Rattle.oas_prepare.proofs.Fronts.{allowed_last, allowed_more, prefix_allowed, front_more}
use Rattle.oas_prepare.proofs.Refusing.{record_stops, memory_placed, there_at}
use Rattle.oas_prepare.proofs.Reasons.{obstacle_decides}
use Rattle.oas_prepare.proofs.Items.{record_no_block}
use Rattle.oas_prepare.proofs.WideLaws.{PrefixFree-wide}

-- after the head
pub gathered_none : {C : Type 0} {t : Store C} {origin now : Script} {head : WideStart} {unit : Ratio} {first : State C} → HasStarted origin head unit now → Stands t first [] → HasGathered t origin head first now first
gathered_none s stands = record {
  records = [];
  bytes = s.bytes;
  takes = s.takes;
  front = s.front;
  prepared = tt;
  stands = stands;
  same = record { unit = refl; limits = refl; dropping = refl };
}

-- the result is the same
pub still_gathered : {C : Type 0} {t : Store C} {origin mid : Script} {head : WideStart} {first p q : State C} → q ≡ p → HasGathered t origin head first mid p → HasGathered t origin head first mid q
still_gathered {t = t} {origin = origin} {mid = mid} {head = head} {first = first} e m = subst (HasGathered t origin head first mid) (sym e) m

module _ {C : Type 0} {t : Store C} {origin mid : Script} {head : WideStart} {first p : State C} (m : HasGathered t origin head first mid p) where
  abbrev limits : Limits
  limits = first.reader.limits

  abbrev dropping : Dropping
  dropping = first.dropping

  module _ {new : Script} where
    -- a record can't be read
    gather_fails : (e : Rejection) → FailsOne head.flag_in_end mid e new → Stops limits dropping origin e new
    gather_fails e f =
        subst (λ (place : Place). Stops limits dropping origin (record { place = place; why = e.why }) new) (sym f.place) (record_stops mid.given e.why m.front m.prepared m.takes refl f.fails)

    module _ {w : WideRecord} (read : ReadsValue (inner_in head.flag_in_end) mid w new) where
      both : Consumed origin (m.bytes ++ read.bytes) new
      both = Consumed-then origin mid new m.bytes read.bytes m.takes read.takes

      front : WidePrefixOf head (m.records ++ w ∷ []) (m.bytes ++ read.bytes)
      front = front_more (w ∷ []) m.front (AsRecord w refl read.spelled)

      -- under the limits of the first
      same_next : obstacle_next p.reader.limits p.dropping m.records w ≡ obstacle_next limits dropping m.records w
      same_next = ap (λ (b : Limits × Dropping). obstacle_next b.0 b.1 m.records w) (λ i. (m.same.limits i, m.same.dropping i))

      -- a record is read and taken
      gather_more : (after : State C) → (obstacle_next p.reader.limits p.dropping m.records w ≡ None) × Stands t after (m.records ++ w ∷ []) → SameRun p after
          → HasGathered t origin head first new after
      gather_more after h same = record {
        records = m.records ++ w ∷ [];
        bytes = m.bytes ++ read.bytes;
        takes = both;
        front = front;
        prepared = allowed_more limits dropping m.records w m.prepared (sym same_next ∙ h.0);
        stands = h.1;
        same = record {
          unit = same.unit ∙ m.same.unit;
          limits = same.limits ∙ m.same.limits;
          dropping = same.dropping ∙ m.same.dropping;
        };
      }

      -- it isn't prepared
      not_prepared : (why : WideWhy) → obstacle_next limits dropping m.records w ≡ Some why → AllPrepared limits dropping (m.records ++ w ∷ []) → ⊥
      not_prepared why some a = let none = allowed_last limits dropping m.records w a in let e = sym none ∙ some in cc

      next_placed : (at : ℕ) (e : Rejection) → e.place ≡ File at → at ≡ mid.given → MayStop limits dropping m.records w e.why → IsPlaced limits dropping origin e new
      next_placed at e place is (inl memory) = memory_placed e (m.bytes ++ read.bytes) both (there_at origin (m.bytes ++ read.bytes) place) (ap plain_of memory.0)
      next_placed at e place is (inr some) = record {
        bytes = m.bytes ++ read.bytes;
        takes = both;
        there = there_at origin (m.bytes ++ read.bytes) place;
        placed = λ fresh of_file more ended. subst (StopsAt limits dropping ((m.bytes ++ read.bytes) ++ more)) (sym place) (ByRecord (record {
          left = read.bytes ++ more;
          start = head;
          records = m.records;
          before = record { before = m.bytes; front = m.front; prepared = m.prepared; place = omega (arith, is, m.takes.given, fresh); joined = append_assoc m.bytes read.bytes more };
          no_end = record { none = λ end front rest ends j. read.spelled.holds.no_end end ((PrefixFree-wide head.flag_in_end).one w (End end) read.bytes front more rest read.spelled.spelled ends j).1 };
          no_record = record {
            none = λ q front rest next j.
                let same = ((PrefixFree-wide head.flag_in_end).one w q read.bytes front more rest read.spelled.spelled next.spelled.spelled j).1 in
                not_prepared e.why some (subst (λ (k : WideRecord). AllPrepared limits dropping (m.records ++ k ∷ [])) (sym same) next.prepared);
          };
          no_block = record { none = λ b front rest s j. record_no_block head.flag_in_end w b.0 read.bytes s.front more (s.back ++ rest) read.spelled s.first (j ∙ pair_then s rest) };
        }));
      }

      next_reasoned : (at : ℕ) (e : Rejection) → e.place ≡ File at → at ≡ mid.given → MayStop limits dropping m.records w e.why → IsReasoned limits dropping origin e new
      next_reasoned at e place is reason = record {
        bytes = m.bytes ++ read.bytes;
        takes = both;
        decided = λ fresh. subst (λ (q : Place). DecidedAt limits dropping origin new (m.bytes ++ read.bytes) q e.why) (sym place) (TheNext (record {
          left = read.bytes;
          start = head;
          records = m.records;
          next = w;
          before = record { before = m.bytes; front = m.front; prepared = m.prepared; place = omega (arith, is, m.takes.given, fresh); joined = refl };
          spelled = read.spelled;
          is = reason;
        }));
      }

      next_stops : (at : ℕ) (e : Rejection) → e.place ≡ File at → at ≡ mid.given → MayStop limits dropping m.records w e.why → Stops limits dropping origin e new
      next_stops at e place is reason = (judged_refused both (judged reason), next_placed at e place is reason, next_reasoned at e place is reason) where
        judged : MayStop limits dropping m.records w e.why → Judges (Preparable limits dropping) (m.bytes ++ read.bytes) (plain_of e.why)
        judged (inl memory) = ForMemory (ap plain_of memory.0)
        judged (inr some) = Decided (obstacle_decides limits dropping m.records w e.why some) (λ more a. not_prepared e.why some (prefix_allowed more front a.formed))

      -- or it isn't prepared
      gather_stops : (e : Rejection) → IsStop mid.given p.reader.limits p.dropping m.records w e → Stops limits dropping origin e new
      gather_stops e stop = next_stops mid.given e stop.place refl (subst (λ (b : Limits × Dropping). MayStop b.0 b.1 m.records w e.why) (λ i. (m.same.limits i, m.same.dropping i)) stop.why)

    -- the next record is taken
    pub one_more : {after : State C} → HasTakenOne t head.flag_in_end mid p new after → HasGathered t origin head first new after
    one_more o = gather_more o.read _ (o.taken m.records m.stands) o.same

    -- or it isn't prepared, or can't be read
    pub one_stops : (e : Rejection) → FailsOne head.flag_in_end mid e new ⊎ StopsOne t head.flag_in_end mid p e new → Stops limits dropping origin e new
    one_stops e (inl f) = gather_fails e f
    one_stops e (inr o) = gather_stops o.read e (o.stopped m.records m.stands)

    -- END is read
    pub gather_ends : (at : ℕ) (end : WideEnd) → at ≡ mid.given → ReadsValue (end_in head.flag_in_end) mid end new → HasAll t origin head first at end new p
    gather_ends at end is read = record {
      records = m.records;
      bytes = m.bytes;
      last = read.bytes;
      takes = Consumed-then origin mid new m.bytes read.bytes m.takes read.takes;
      front = m.front;
      ends = read.spelled;
      place = is ∙ m.takes.given;
      prepared = m.prepared;
      stands = m.stands;
      same = m.same;
    }
