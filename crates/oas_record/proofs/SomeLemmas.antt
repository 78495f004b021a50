-- There is a prefix of a file, and a record of each id.
use Rattle.std.proofs.Common.{◌≡◌, ◌≢◌, ℕ, ◌<◌, ◌^◌, Bool, true, false, List, [], ◌∷◌, ◌++◌, replicate, Some, None, inl, inr, refl, sym, ap, subst, ◌∙◌, arith}
use Rattle.std.specs.Prelude.{◌==◌}
use Rattle.std.proofs.lemmas.Nat.Gcd.{dvd_refl}
use Rattle.std.proofs.lemmas.Bool.{eq-eqb}
use Rattle.std.proofs.lemmas.Bool.Decides.{eqb_tells}
use Rattle.oas_num.specs.Begun.{HasSome}
use Rattle.oas_num.specs.Laws.BegunLaws.{HasSome-pair, HasSome-image, HasSome-exactly}
use Rattle.oas_num.specs.Grammar.{IsPair, IsSuch}
use Rattle.oas_num.specs.Combinators.{IsEither}
use Rattle.oas_num.specs.Ratio.{Ratio}
use Rattle.oas_num.specs.Integers.{IsUnsigned}
use Rattle.oas_num.specs.Laws.IntegerLaws.{zero_spelled}
use Rattle.oas_num.specs.Writing.{shortest}
use Rattle.oas_num.specs.Style.{Any}
use Rattle.oas_num.specs.Laws.StyleLaws.{unsigned_spelled}
use Rattle.oas_num.specs.Laws.TextLaws.{IsWithin-label, label_spelled}
use Rattle.oas_record.specs.declared.records.Record.TheVariants as record_of
use Rattle.oas_record.specs.Trees.{Row, by_table, has_row}
use Rattle.oas_record.specs.Ends.{offsets_part, zeros, zero_group, end_bytes, end_kind, end_parts}
use Rattle.oas_record.specs.Heads.{magic, IsMagic, version, version_in, SpellsUnit, IsFlag, flag_in, twelve_zeros, offsets_in, start_parts, head_of, start_in, head_after, head_in}
use Rattle.oas_record.specs.Laws.HeadLaws.{offsets_within, itself}
use Rattle.oas_record.specs.Records.{id_of, table, after_id, parts_in}
use Rattle.oas_record.specs.Refusals.{is_known, IsKnown, HasRecord}
use Rattle.oas_record.proofs.IdLemmas.{id_after, other_row, known_within}

one_one : IsUnsigned 1 (1 ∷ [])
one_one = record { closed = inl (omega arith, refl); short = omega arith; value = omega arith; fits = omega arith }

-- a number for which that holds, as it does for 0
zero_such : (P : ℕ → Type 0) → P 0 → HasSome (IsSuch P IsUnsigned)
zero_such P holds = record { value = 0; bytes = 0 ∷ []; spelled = record { holds = holds; spelled = zero_spelled } }

-- ---- the head of a file

pub HasSome-magic : HasSome IsMagic
HasSome-magic = HasSome-exactly magic

pub HasSome-version : HasSome (version_in Any)
HasSome-version = record {
  value = tt;
  bytes = shortest 3 ++ version;
  spelled = IsWithin-label.within version (shortest 3 ++ version)
      (label_spelled version (record {
        fits = omega arith;
        class =
            ((omega arith, omega arith), ((omega arith, omega arith), ((omega arith, omega arith), tt)));
      }));
}

abbrev one_to_one : Ratio
one_to_one = record { num = 1; den = 1 }

pub HasSome-unit : HasSome SpellsUnit
HasSome-unit = record {
  value = one_to_one;
  bytes = 0 ∷ 1 ∷ [];
  spelled = record {
    real = record { negative = false; num = 1; den = 1 };
    is_unit = record { positive = refl; reduces = itself one_to_one (record { num_some = omega arith; den_some = omega arith; coprime = (dvd_refl 1, dvd_refl 1, λ d p q. p) }) };
    spelled = record {
      from = (0, (Some 1, None));
      is = refl;
      spelled = record {
        front = 0 ∷ [];
        back = 1 ∷ [];
        joined = refl;
        first = record { holds = omega arith; spelled = zero_spelled };
        second = record { front = 1 ∷ []; back = []; joined = refl; first = one_one; second = refl };
      };
    };
  };
}

pub HasSome-flag : HasSome (flag_in Any)
HasSome-flag = let some = zero_such IsFlag (omega arith) in record { value = some.value; bytes = some.bytes; spelled = some.spelled }

pub HasSome-start : HasSome (start_in Any)
HasSome-start =
    HasSome-image head_of (start_parts Any)
    (HasSome-pair _ _ (record { value = 1; bytes = 1 ∷ []; spelled = record { holds = refl; spelled = one_one } })
    (HasSome-pair _ _ HasSome-version
    (HasSome-pair _ _ HasSome-unit
    (HasSome-pair (flag_in Any) (λ flag. offsets_in Any (flag == 0)) HasSome-flag ((offsets_part (HasSome-flag.value == 0)).some)))))

pub HasSome-head : HasSome (head_in Any)
HasSome-head = HasSome-image head_after (IsPair IsMagic (λ _. start_in Any)) (HasSome-pair IsMagic (λ _. start_in Any) HasSome-magic HasSome-start)

-- ---- what follows an id

-- a PAD
pub HasSome-parts : (in_end : Bool) → HasSome (parts_in Any in_end)
HasSome-parts in_end = record {
  value = record_of.Pad;
  bytes = 0 ∷ [];
  spelled = record { front = 0 ∷ []; back = []; first = zero_spelled; second = record { from = tt; is = refl; spelled = refl }; joined = refl };
}

-- one of two by an id
either_some : {V : Type 0} (id n : ℕ) (A B : V → List ℕ → Type 0) (test : Bool) → (id == n) ≡ test → HasSome A → (id ≢ n → HasSome B) → HasSome (IsEither test A B)
either_some id n A B true is first rest = record { value = first.value; bytes = first.bytes; spelled = first.spelled }
either_some id n A B false is first rest = let some = rest (λ e. let same = eq-eqb id n e in absurd cc) in record { value = some.value; bytes = some.bytes; spelled = some.spelled }

by_id : {V : Type 0} {A B : V → List ℕ → Type 0} (id n : ℕ) → HasSome A → (id ≢ n → HasSome B) → HasSome (IsEither (id == n) A B)
by_id {A = A} {B = B} id n first rest = either_some id n A B (id == n) refl first rest

some_by : {V : Type 0} (id : ℕ) (rows : List (Row V)) → has_row id rows ≡ true → HasSome (by_table id rows).any
some_by id [] known = absurd cc
some_by id (r ∷ rows) known = by_id id r.number r.kind.some (λ isnt. some_by id rows (other_row id r.number (has_row id rows) isnt known))

after_some : (in_end : Bool) (id : ℕ) → IsKnown id → HasSome (after_id Any in_end id)
unfolding is_known
after_some in_end id known = some_by id (table in_end) known

two_spelled : IsUnsigned 2 (2 ∷ [])
two_spelled = record { closed = inl (omega arith, refl); short = omega arith; value = omega arith; fits = omega arith }

long_padding : IsUnsigned 240 (240 ∷ 1 ∷ [])
long_padding = record { closed = inr (omega arith, omega arith, inl (omega arith, refl)); short = omega arith; value = omega arith; fits = omega arith }

-- table-offsets of twelve bytes, and padding of 240
abbrev offsets_end : List ℕ
offsets_end = twelve_zeros ++ ((240 ∷ 1 ∷ replicate 240 0) ++ (0 ∷ []))

-- END, of 256 bytes
end_record : (in_end : Bool) → HasRecord in_end 2
unfolding end_bytes
end_record false = (
  record_of.End,
  2 ∷ end_bytes,
  record {
    whole = λ _. refl;
    parts = record {
      front = 2 ∷ [];
      back = end_bytes;
      first = two_spelled;
      second = record { from = tt; is = refl; spelled = (end_kind false).within.within tt end_bytes refl };
      joined = refl;
    };
  },
  refl,
)
end_record true =
    let spelled : (end_parts true).any (tt, (record { length = 240 }, 0)) offsets_end = record {
      front = twelve_zeros;
      back = (240 ∷ 1 ∷ replicate 240 0) ++ (0 ∷ []);
      first = offsets_within tt twelve_zeros refl;
      joined = refl;
      second = record {
        front = 240 ∷ 1 ∷ replicate 240 0;
        back = 0 ∷ [];
        joined = refl;
        first = record {
          front = 240 ∷ 1 ∷ [];
          back = replicate 240 0;
          joined = refl;
          first = long_padding;
          second = record { from = replicate 240 0; is = refl; spelled = record { len = refl; each = zeros 240 } };
        };
        second = record { holds = refl; spelled = zero_group };
      };
    } in (
      record_of.End,
      2 ∷ offsets_end,
      record {
        whole = λ _. refl;
        parts = record {
          front = 2 ∷ [];
          back = offsets_end;
          first = two_spelled;
          second = record { from = tt; is = refl; spelled = record { from = (tt, (record { length = 240 }, 0)); is = refl; spelled = spelled } };
          joined = refl;
        };
      },
      refl,
    )

known_small : (id : ℕ) → IsKnown id → id < 2 ^ 64
known_small id known = omega (arith, (known_within id known).1)

inner_record : (in_end : Bool) (id : ℕ) → id ≢ 2 → id < 2 ^ 64 → HasSome (after_id Any in_end id) → HasRecord in_end id
inner_record in_end id isnt small some =
    let same : id_of some.value ≡ id = id_after in_end id some.value some.bytes some.spelled in
    let first : IsUnsigned (id_of some.value) (shortest id) = subst (λ (k : ℕ). IsUnsigned k (shortest id)) (sym same) (unsigned_spelled Any id small) in
    let second : after_id Any in_end (id_of some.value) some.value some.bytes = subst (λ (k : ℕ). after_id Any in_end k some.value some.bytes) (sym same) some.spelled in (
      some.value,
      shortest id ++ some.bytes,
      record {
        whole = λ e. absurd (isnt (sym same ∙ ap id_of e));
        parts = record { front = shortest id; back = some.bytes; first = first; second = second; joined = refl };
      },
      same,
    )

pub record_some : (in_end : Bool) (id : ℕ) → IsKnown id → HasRecord in_end id
record_some in_end id known = elim (eqb_tells id 2) [
  | inl is ↦ subst (HasRecord in_end) (sym is.1) (end_record in_end)
  | inr isnt ↦ inner_record in_end id isnt.1 (known_small id known) (after_some in_end id known)
]
