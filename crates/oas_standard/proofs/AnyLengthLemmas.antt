-- Records of the profile with integers of any number of bytes: an id, and what was read after it through a shortened source.
use Rattle.std.proofs.Common.{◌≡◌, ◌≢◌, ℕ, Bool, true, false, List, [], ◌++◌, ◌⊎◌, refl, sym, ap, subst, ◌∙◌}
use Rattle.oas_num.specs.declared.refusals.Why.{Why}
use Rattle.oas_num.specs.declared.refusals.Why.TheVariants.{Memory}
use Rattle.oas_num.specs.Combinators.{IsEither}
use Rattle.oas_num.specs.Grammar.{IsImage}
use Rattle.oas_num.specs.Reading.{ReadsValue, FailsPiece, NoneFits, NoneWithin}
use Rattle.oas_num.specs.Script.{Script, Consumed}
use Rattle.oas_record.specs.declared.records.Record.{Record}
use Rattle.oas_record.specs.Records.{after}
use Rattle.oas_long_integers.specs.Places.{shortened}
use Rattle.oas_long_integers.specs.Places as places
use Rattle.oas_long_integers.specs.Laws.PlaceLaws.{shortened-append}
use Rattle.oas_long_integers.specs.AnyLength.{IsAnyLength, AnyLengthTook, first_of}
use Rattle.oas_long_integers.specs.Reading.{ReadsLong, FailsLong}
use Rattle.oas_long_integers.proofs.TameRecords.{TameFrom, tame_after}
use Rattle.oas_standard.specs.Long.{IsLong}
use Rattle.oas_standard.specs.Reasons.{named}
use Rattle.oas_standard.specs.WideRecords.{profile, foreign, fields, fields_in, is_profile_id, wide_record_in, FailsWide}
use Rattle.oas_standard.proofs.WideLemmas.{fields_fail, inner_read}

-- ---- ids

-- neither END's nor that of placements by reals
pub inner_id : (id : ℕ) → is_profile_id id ≡ true → (id ≢ 2) × (id ≢ 18)
inner_id id is = (
  λ e. (let no : false ≡ true = ap is_profile_id (sym e) ∙ is in absurd cc),
  λ e. (let no : false ≡ true = ap is_profile_id (sym e) ∙ is in absurd cc),
)

-- ---- what is spelled after an id

module _ (in_end : Bool) (id : ℕ) (is : is_profile_id id ≡ true) where
  law : TameFrom (first_of id) (after in_end id).any (after in_end id).took
  law = let i = inner_id id is in tame_after in_end id i.0 i.1

  profile_spelled : (r : Record) (bytes : List ℕ) → IsAnyLength (first_of id) (after in_end id).any r bytes → fields_in in_end id (profile r) bytes
  profile_spelled r bytes p =
      subst (λ (t : Bool). IsEither t (IsImage profile (IsAnyLength (first_of id) (after in_end id).any)) (foreign in_end id).any (profile r) bytes) (sym is) (record { from = r; is = refl; spelled = p })

  -- with integers of at most ten bytes
  pub short_spelled : (r : Record) (bytes : List ℕ) → (after in_end id).any r bytes → fields_in in_end id (profile r) bytes
  short_spelled r bytes p =
      let w = law.whole r bytes p in
      profile_spelled r bytes (record { settled = w.1; spelled = subst (λ (c : List ℕ). (after in_end id).any r c) (sym w.0) p })

  none_spelled : (bytes short : List ℕ) → short ≡ shortened (first_of id) bytes → NoneFits (after in_end id).any short → NoneFits (fields_in in_end id) bytes
  none_spelled bytes short e n = record {
    none = λ v front rest more s j.
        let p = subst (λ (t : Bool). IsEither t (IsImage profile (IsAnyLength (first_of id) (after in_end id).any)) (foreign in_end id).any v front) is s in
        n.none p.from (shortened (first_of id) front) (shortened (places.after (first_of id) front) rest) (shortened (places.after (first_of id) bytes) more) p.spelled.spelled
        (sym (shortened-append (first_of id) front rest) ∙ ap (shortened (first_of id)) j ∙ shortened-append (first_of id) bytes more ∙ ap (λ (c : List ℕ). c ++ shortened (places.after (first_of id) bytes) more) (sym e));
  }

  none_within : (bytes short : List ℕ) → short ≡ shortened (first_of id) bytes → NoneWithin (after in_end id).any short → NoneWithin (fields_in in_end id) bytes
  none_within bytes short e n = record {
    none = λ v front rest s j.
        let p = subst (λ (t : Bool). IsEither t (IsImage profile (IsAnyLength (first_of id) (after in_end id).any)) (foreign in_end id).any v front) is s in
        n.none p.from (shortened (first_of id) front) (shortened (places.after (first_of id) front) rest) p.spelled.spelled
        (sym (shortened-append (first_of id) front rest) ∙ ap (shortened (first_of id)) j ∙ sym e);
  }

  abbrev Stops : Script → Why → Script → Type 0
  Stops mid why new = FailsLong (first_of id) (after in_end id).any (after in_end id).took mid why new

  -- a read that fails, for bytes whose shortened form was given
  fails_behind : {mid new : Script} {why : Why} (at : Script) (bytes : List ℕ) (f : Stops mid why new) → f.short ≡ shortened (first_of id) bytes → Consumed at bytes new
      → FailsPiece (fields_in in_end id) (fields in_end id).took at why new
  fails_behind {why = why} at bytes f e takes = record {
    bytes = bytes;
    takes = takes;
    reason = record {
      front = [];
      last = bytes;
      joined = refl;
      begun = refl;
      holds = subst (λ (t : Bool). IsEither t (AnyLengthTook (first_of id) (after in_end id).any (after in_end id).took) (foreign in_end id).took why bytes) (sym is)
          (subst (λ (c : List ℕ). (after in_end id).took why c ⊎ ((why ≡ Memory) × ((r : Record) × (after in_end id).any r c))) e f.reason);
    };
    format = λ h. none_spelled bytes f.short e (f.format h);
    cut = λ h. none_within bytes f.short e (f.cut h);
    truncated = f.truncated;
    device = f.device;
    too_long = f.too_long;
  }

-- ---- a record

module _ {old mid new : Script} {id : ℕ} (in_end : Bool) (is : is_profile_id id ≡ true) (read : ReadsValue IsLong old id mid) where
  pub record_read : {r : Record} → ReadsLong (first_of id) (after in_end id).any mid r new → ReadsValue (wide_record_in in_end) old (profile r) new
  record_read {r} f = inner_read in_end (inner_id id is).0 read (record {
    bytes = f.bytes;
    spelled = profile_spelled in_end id is r f.bytes (record { settled = f.settled; spelled = subst (λ (c : List ℕ). (after in_end id).any r c) f.is_short f.spelled });
    takes = f.takes;
  })

  pub record_fails : {why : Why} → FailsLong (first_of id) (after in_end id).any (after in_end id).took mid why new → FailsWide in_end old (named id why) new
  record_fails {why} f = fields_fail in_end read (fails_behind in_end id is mid f.bytes f f.is_short f.takes)
