-- A byte list is accepted, or refused at some place.
use Rattle.std.proofs.Common.{◌≡◌, ℕ, zero, suc, ◌+◌, ◌<◌, ◌≤◌, Bool, List, [], ◌∷◌, ◌++◌, length, Option, None, Some, ◌⊎◌, inl, inr, refl, sym, ap, subst, ◌∙◌, append_assoc, arith}
use Rattle.std.proofs.lemmas.List.{append-nil, length-append}
use Rattle.oas_num.specs.declared.refusals.Why.{Why}
use Rattle.oas_num.specs.Style.{Any}
use Rattle.oas_num.proofs.IntegerLemmas.{closed_long}
use Rattle.oas_record.specs.declared.heads.Head.{Head}
use Rattle.oas_record.specs.declared.records.Record.{Record}
use Rattle.oas_record.specs.declared.records.Record.TheVariants.{End}
use Rattle.oas_record.specs.Heads.{magic}
use Rattle.oas_record.specs.Records.{record_in}
use Rattle.oas_elements.specs.declared.limits.Limits.{Limits}
use Rattle.oas_reader.specs.Stands.{refusal, end_refusal}
use Rattle.oas_file.specs.Files.{FileOf}
use Rattle.oas_file.specs.Acceptance.{Accepted}
use Rattle.oas_file.specs.Places.{IsBefore, RefusedAt, ByMagic, ByStart, ByRecord, AfterLast, ByEnd, SomePlace}
use Rattle.oas_file.proofs.Fronts.{allowed_last, allowed_more, front_none, front_more, file_all}
use Rattle.oas_record.specs.Found.{Settled, Stands, only, found_exactly}
use Rattle.oas_file.proofs.FoundRecords.{settled_end, found_record, found_start}

-- ---- a record takes at least one byte

pub record_long : (in_end : Bool) (r : Record) (bytes : List ℕ) → record_in Any in_end r bytes → 0 < length bytes
record_long in_end r bytes s =
    let p = s.parts in
    omega (arith, ap length p.joined, length-append p.front p.back, closed_long p.front p.first.closed)

-- ---- what follows a prefix of a file

settled_none : (o : Option Why) → Settled (o ≡ None)
settled_none None = inl refl
settled_none (Some why) = inr (λ e. cc)

module _ (limits : Limits) (b : List ℕ) where
  abbrev Judged : Type 0
  Judged = Accepted limits b ⊎ ((p : ℕ) × RefusedAt limits b p)

  module _ {left : List ℕ} {at : ℕ} {head : Head} {records : List Record} (i : IsBefore limits b left at head records) where
    -- END, and nothing after it
    by_end : record_in Any head.flag_in_end End left → Judged
    by_end end = elim (settled_none (end_refusal limits records)) [
      | inl whole ↦ inl (record { head = head; records = records; file = file; allowed = i.allowed; whole = whole })
      | inr torn ↦ inr (at, ByEnd (record { left = left; head = head; records = records; before = i; end = end; torn = torn }))
    ] where
      file : FileOf head records b
      file = subst (FileOf head records) (sym i.joined) (file_all i.front end)

    -- END, and what is left after it
    at_end : (last rest : List ℕ) → record_in Any head.flag_in_end End last → left ≡ last ++ rest → Judged
    at_end last [] end e = by_end (subst (λ (c : List ℕ). record_in Any head.flag_in_end End c) (sym (e ∙ append-nil last)) end)
    at_end last (byte ∷ rest) end e =
        inr (at + length last, AfterLast (record { left = left; head = head; records = records; start = at; before = i; last = last; byte = byte; rest = rest; end = end; joined = e; place = refl }))

    module _ (s : Stands (record_in Any head.flag_in_end) left) where
      -- a record that isn't allowed
      not_next : (s.value ≡ End → ⊥) → (refusal limits records s.value ≡ None → ⊥) → Judged
      not_next inner refused = inr (
        at,
        ByRecord (record {
          left = left;
          head = head;
          records = records;
          before = i;
          no_end = λ front rest end e. inner (only (found_record head.flag_in_end).one s End front rest end e).value;
          no_record = record {
            none = λ r front rest next e.
                let same = (only (found_record head.flag_in_end).one s r front rest next.spelled e).value in
                refused (subst (λ (q : Record). refusal limits records q ≡ None) (sym same) (allowed_last limits records r next.allowed));
          };
        }),
      )

      -- one more
      next : (s.value ≡ End → ⊥) → refusal limits records s.value ≡ None → IsBefore limits b s.rest (length (i.before ++ s.front)) head (records ++ s.value ∷ [])
      next inner none = record {
        before = i.before ++ s.front;
        front = front_more i.front (record { holds = inner; spelled = s.spelled });
        allowed = allowed_more limits records s.value i.allowed none;
        place = refl;
        joined = i.joined ∙ ap (λ (c : List ℕ). i.before ++ c) s.joined ∙ sym (append_assoc i.before s.front s.rest);
      }

      shorter : length s.rest < length left
      shorter = omega (arith, record_long head.flag_in_end s.value s.front s.spelled, ap length s.joined, length-append s.front s.rest)

    -- END, a record, or neither
    at_record : ((s : Stands (record_in Any head.flag_in_end) left) → (s.value ≡ End → ⊥) → refusal limits records s.value ≡ None → Judged) → Judged
    at_record more = elim ((found_record head.flag_in_end).find left) [
      | inl s ↦ elim (settled_end s.value) [
        | inl end ↦ at_end s.front s.rest (subst (λ (r : Record). record_in Any head.flag_in_end r s.front) end s.spelled) s.joined
        | inr inner ↦ elim (settled_none (refusal limits records s.value)) [ inl none ↦ more s inner none | inr refused ↦ not_next s inner refused ]
      ]
      | inr lacks ↦ inr (
        at,
        ByRecord (record {
          left = left;
          head = head;
          records = records;
          before = i;
          no_end = lacks.none End;
          no_record =
              record { none = λ r front rest q e. lacks.none r front rest q.spelled e };
        }),
      )
    ]

  -- record by record, each of which takes a byte
  after_front : (n : ℕ) {left : List ℕ} {at : ℕ} {head : Head} {records : List Record} → length left ≤ n → IsBefore limits b left at head records → Judged
  after_front zero short i = at_record i (λ s inner none. absurd (omega (arith, short, shorter i s)))
  after_front (suc n) short i = at_record i (λ s inner none. after_front n (omega (arith, short, shorter i s)) (next i s inner none))

  -- ---- from the first byte

  at_start : (left : List ℕ) → b ≡ magic ++ left → Judged
  at_start left e = elim (found_start.find left) [
    | inl s ↦ after_front (length s.rest) {head = s.value} {records = []} (omega arith) (record {
      before = magic ++ s.front;
      front = front_none (magic ++ s.front) (record { from = (tt, s.value); is = refl; spelled = record { front = magic; back = s.front; first = refl; second = s.spelled; joined = refl } });
      allowed = tt;
      place = refl;
      joined = e ∙ ap (λ (c : List ℕ). magic ++ c) s.joined ∙ sym (append_assoc magic s.front s.rest);
    })
    | inr lacks ↦ inr (13, ByStart (record { left = left; place = refl; joined = e; none = lacks }))
  ]

  judged : Judged
  judged = elim ((found_exactly magic).find b) [
    | inl s ↦ at_start s.rest (s.joined ∙ ap (λ (c : List ℕ). c ++ s.rest) s.spelled)
    | inr lacks ↦ inr (0, ByMagic (record { place = refl; differs = λ rest. lacks.none tt magic rest refl }))
  ]

pub some_place : SomePlace
some_place = judged
