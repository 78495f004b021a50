-- START, END and the records: it is decidable whether some bytes begin with one.
use Rattle.std.proofs.Common.{◌≡◌, ℕ, zero, suc, ◌<◌, ◌≤◌, ◌*◌, ◌/◌, ◌%◌, Bool, true, false, List, [], ◌∷◌, ◌++◌, length, ◌⊎◌, inl, inr, refl, sym, ap, subst, ◌∙◌, arith}
use Rattle.std.specs.Prelude.{◌==◌}
use Rattle.std.specs.Int.{IsGcd}
use Rattle.std.proofs.Math.Nat.{mod-lt}
use Rattle.std.proofs.lemmas.Bool.{cases_lt}
use Rattle.std.proofs.lemmas.Nat.Gcd.{IsGcd-from_zero, IsGcd-from_mod}
use Rattle.oas_num.specs.Ratio.{Ratio}
use Rattle.oas_num.specs.Laws.RatioLaws.{quotients}
use Rattle.oas_num.specs.Style.{Any}
use Rattle.oas_num.specs.Texts.{label_in}
use Rattle.oas_num.specs.Reals.{SpellsReal}
use Rattle.oas_record.specs.declared.records.Record.{Record}
use Rattle.oas_record.specs.declared.records.Record.TheVariants.{End}
use Rattle.oas_record.specs.Ends.{IsNumber, offsets_part}
use Rattle.oas_record.specs.Records.{id_of, after, parts_in, record_in}
use Rattle.oas_record.specs.Laws.RecordLaws.{PrefixFree-record}
use Rattle.oas_record.specs.Heads.{IsPositiveReal, version, version_in, SpellsUnit, IsFlag, head_of, start_in}
use Rattle.oas_record.specs.Laws.HeadLaws.{PrefixFree-version, PrefixFree-SpellsUnit}
use Rattle.oas_record.specs.Found.{NoneIsSpelled, Settled, settled_number, settled_both, Stands, IsFound, only, found_such, found_image, found_pair, found_keyed}
use Rattle.oas_record.specs.FoundParts.{settled_below, found_unsigned, found_label, found_real}

-- ---- a record

found_parts : (in_end : Bool) → IsFound (parts_in Any in_end)
found_parts in_end = found_keyed id_of found_unsigned (λ id. (after in_end id).found)

pub settled_end : (r : Record) → Settled (r ≡ End)
settled_end End = inl refl
settled_end _ = inr (λ e. cc)

pub found_record : (in_end : Bool) → IsFound (record_in Any in_end)
found_record in_end = record { one = PrefixFree-record Any in_end; find = find } where
  f : IsFound (parts_in Any in_end)
  f = found_parts in_end

  full : (left : List ℕ) (s : Stands (parts_in Any in_end) left) → s.value ≡ End → Settled (length s.front ≡ 256) → Stands (record_in Any in_end) left ⊎ NoneIsSpelled (record_in Any in_end) left
  full left s is (inl long) = inl (record { value = s.value; front = s.front; rest = s.rest; spelled = record { whole = λ _. long; parts = s.spelled }; joined = s.joined })
  full left s is (inr not) = inr (record {
    none = λ v front rest p e.
        let same = only f.one s v front rest p.parts e in
        not (ap length same.front ∙ p.whole (sym same.value ∙ is));
  })

  here : (left : List ℕ) (s : Stands (parts_in Any in_end) left) → Settled (s.value ≡ End) → Stands (record_in Any in_end) left ⊎ NoneIsSpelled (record_in Any in_end) left
  here left s (inl is) = full left s is (settled_number (length s.front) 256)
  here left s (inr not) = inl (record { value = s.value; front = s.front; rest = s.rest; spelled = record { whole = λ is. absurd (not is); parts = s.spelled }; joined = s.joined })

  find : (left : List ℕ) → Stands (record_in Any in_end) left ⊎ NoneIsSpelled (record_in Any in_end) left
  find left = elim (f.find left) [
    | inl s ↦ here left s (settled_end s.value)
    | inr lacks ↦ inr (record { none = λ v front rest p e. lacks.none v front rest p.parts e })
  ]

-- ---- START

settled_list : (xs ys : List ℕ) → Settled (xs ≡ ys)
settled_list [] [] = inl refl
settled_list [] (y ∷ ys) = inr (λ e. cc)
settled_list (x ∷ xs) [] = inr (λ e. cc)
settled_list (x ∷ xs) (y ∷ ys) = elim (settled_both (settled_number x y) (settled_list xs ys)) [
  | inl both ↦ inl (λ i. both.0 i ∷ both.1 i)
  | inr not ↦ inr (λ e. let head : x ≡ y = cc in let tail : xs ≡ ys = cc in not (head, tail))
]

found_version : IsFound (version_in Any)
found_version = record { one = PrefixFree-version Any; find = find } where
  here : (left : List ℕ) (s : Stands (label_in Any) left) → Settled (s.value ≡ version) → Stands (version_in Any) left ⊎ NoneIsSpelled (version_in Any) left
  here left s (inl is) = inl (record { value = tt; front = s.front; rest = s.rest; spelled = subst (λ (t : List ℕ). label_in Any t s.front) is s.spelled; joined = s.joined })
  here left s (inr not) = inr (record { none = λ v front rest p e. not (only found_label.one s version front rest p e).value })

  find : (left : List ℕ) → Stands (version_in Any) left ⊎ NoneIsSpelled (version_in Any) left
  find left = elim (found_label.find left) [
    | inl s ↦ here left s (settled_list s.value version)
    | inr lacks ↦ inr (record { none = λ v front rest p e. lacks.none version front rest p e })
  ]

-- two numbers have a greatest common divisor
some_gcd : (n a b : ℕ) → b ≤ n → (g : ℕ) × IsGcd a b g
some_gcd zero a b h = (a, IsGcd-from_zero a b (omega (arith, h)))
some_gcd (suc n) a b h = elim (cases_lt 0 b) [
  | inl some ↦ let g = some_gcd n b (a % b) (omega (arith, h, mod-lt a some)) in (g.0, IsGcd-from_mod a b g.0 g.1)
  | inr none ↦ (a, IsGcd-from_zero a b (omega (arith, none)))
]

settled_false : (b : Bool) → Settled (b ≡ false)
settled_false true = inr (λ e. cc)
settled_false false = inl refl

-- what is divided by some number is some
product_some : (p q n : ℕ) → 0 < n → 0 < q → n * q ≡ p → 0 < p
product_some p q (suc n) some also e = omega (arith, also, e)
product_some p q zero some also e = omega (arith, some)

found_unit : IsFound SpellsUnit
found_unit = record { one = PrefixFree-SpellsUnit; find = find } where
  positive : (left : List ℕ) (s : Stands SpellsReal left) (front rest : List ℕ) (v : Ratio) → SpellsUnit v front → left ≡ front ++ rest → IsPositiveReal s.value
  positive left s front rest v p e =
      let same = (only found_real.one s p.real front rest p.spelled e).value in
      let r = p.is_unit.reduces in
      subst IsPositiveReal (sym same) (
        p.is_unit.positive,
        (
          product_some p.real.num r.divisor v.num r.lowest.num_some r.some r.num_is,
          product_some p.real.den r.divisor v.den r.lowest.den_some r.some r.den_is,
        ),
      )

  here : (left : List ℕ) (s : Stands SpellsReal left) → Settled (IsPositiveReal s.value) → Stands SpellsUnit left ⊎ NoneIsSpelled SpellsUnit left
  here left s (inl p) =
      let g = some_gcd s.value.den s.value.num s.value.den (omega arith) in
      inl (record {
        value = record { num = s.value.num / g.0; den = s.value.den / g.0 };
        front = s.front;
        rest = s.rest;
        spelled = record { real = s.value; is_unit = record { positive = p.0; reduces = quotients s.value.num s.value.den g.0 p.1.0 p.1.1 g.1 }; spelled = s.spelled };
        joined = s.joined;
      })
  here left s (inr not) = inr (record { none = λ v front rest p e. not (positive left s front rest v p e) })

  find : (left : List ℕ) → Stands SpellsUnit left ⊎ NoneIsSpelled SpellsUnit left
  find left = elim (found_real.find left) [
    | inl s ↦ here left s (settled_both (settled_false s.value.negative) (settled_both (settled_below 0 s.value.num) (settled_below 0 s.value.den)))
    | inr lacks ↦ inr (record { none = λ v front rest p e. lacks.none p.real front rest p.spelled e })
  ]

pub found_start : IsFound (start_in Any)
found_start =
    found_image head_of (found_pair (found_such (IsNumber 1) (λ n. settled_number n 1) found_unsigned) (λ _.
    found_pair found_version (λ _.
    found_pair found_unit (λ _.
    found_pair (found_such IsFlag (λ flag. settled_below flag 2) found_unsigned) (λ flag.
    (offsets_part (flag == 0)).found)))))
