-- Numbers in any number of bytes, and strings with such a length (SEMI P39, Unsigned integers; b-strings).
use Rattle.std.proofs.Common.{◌≡◌, ℕ, ◌<◌, ◌≤◌, ◌^◌, List, [], ◌∷◌, ◌++◌, ◌⊎◌, inl, inr, refl, sym, ap, subst, ◌∙◌, arith}
use Rattle.std.proofs.lemmas.Bool.{cases_lt}
use Rattle.oas_num.specs.declared.refusals.Why.{Why}
use Rattle.oas_num.specs.declared.refusals.Why.TheVariants.{Truncated, IntegerRange, Read, InputTooLong, Write}
use Rattle.oas_num.specs.declared.padding.Padding.{Padding}
use Rattle.oas_num.specs.Combinators.{IsNever}
use Rattle.oas_num.specs.Grammar.{PrefixFree}
use Rattle.oas_num.specs.Integers.{IsOpen, IsClosed, IsUnsigned, value_of}
use Rattle.oas_num.specs.Laws.BegunLaws.{HasSome-such}
use Rattle.oas_num.specs.Laws.CombinatorLaws.{OneSpelling-never}
use Rattle.oas_num.specs.Laws.IntegerLaws.{closed_same}
use Rattle.oas_num.specs.Pieces.{Unless}
use Rattle.oas_num.specs.Texts.{padding_of}
use Rattle.oas_record.specs.Found.{IsFound, Stands, NoneIsSpelled, Settled}
use Rattle.oas_record.specs.FoundParts.{settled_below}
use Rattle.oas_record.specs.Kinds.{Kind, byte}
use Rattle.oas_record.specs.Trees.{IsTest, pair, items, image_any}

-- the bytes are a spelling of n: any number of groups, where those above its 64 bits are zero
pub record IsLong (n : ℕ) (bytes : List ℕ) : Type 0 where
  pub closed : IsClosed bytes
  pub value : n ≡ value_of bytes
  pub fits : n < 2 ^ 64

-- groups with more to follow, and one more, that are 2^64 or above
pub record IsPast (bytes : List ℕ) : Type 0 where
  pub front : List ℕ
  pub last : ℕ
  pub joined : bytes ≡ front ++ last ∷ []
  pub open_prefix : IsOpen front
  pub past : 2 ^ 64 ≤ value_of bytes

-- where a read of such a number may fail
abbrev pub LongMay : Why → List ℕ → Type 0
LongMay Truncated last = IsOpen last
LongMay Read last = IsOpen last
LongMay InputTooLong last = IsOpen last
LongMay IntegerRange last = IsPast last
LongMay _ last = ⊥

-- ---- its laws

-- what the profile reads as a number
pub long_unsigned : (n : ℕ) (bytes : List ℕ) → IsUnsigned n bytes → IsLong n bytes
long_unsigned n bytes s = record { closed = s.closed; value = s.value; fits = s.fits }

pub PrefixFree-long : PrefixFree IsLong
PrefixFree-long = record {
  one = λ m n a b x y p q e.
      let same = closed_same a b x y p.closed q.closed e in
      (same, p.value ∙ ap value_of same ∙ sym q.value);
}

-- groups up to one that is the last
abbrev Closed : Unit {0} → List ℕ → Type 0
Closed v bytes = IsClosed bytes

none_in_nil : (front rest : List ℕ) → IsClosed front → [] ≡ front ++ rest → ⊥
none_in_nil [] rest p e = p
none_in_nil (c ∷ cs) rest p e = cc

module _ (b : ℕ) (bs : List ℕ) (large : 128 ≤ b) where
  -- more follow, and none of those is the last
  unfinished : NoneIsSpelled Closed bs → (front rest : List ℕ) → IsClosed front → b ∷ bs ≡ front ++ rest → ⊥
  unfinished lacks [] rest p e = p
  unfinished lacks (c ∷ cs) rest p e =
      let head : b ≡ c = cc in
      let tail : bs ≡ cs ++ rest = cc in
      elim p [ inl last ↦ omega (arith, large, head, last.0) | inr more ↦ lacks.none tt cs rest more.2 tail ]

  -- it is no byte
  no_group : 256 ≤ b → (front rest : List ℕ) → IsClosed front → b ∷ bs ≡ front ++ rest → ⊥
  no_group past [] rest p e = p
  no_group past (c ∷ cs) rest p e =
      let head : b ≡ c = cc in
      elim p [ inl last ↦ omega (arith, large, head, last.0) | inr more ↦ omega (arith, past, head, more.1) ]

closed_at : (left : List ℕ) → Stands Closed left ⊎ NoneIsSpelled Closed left
closed_at [] = inr (record { none = λ v front rest p e. none_in_nil front rest p e })
closed_at (b ∷ bs) = elim (cases_lt b 128) [
  | inl small ↦ inl (record { value = tt; front = b ∷ []; rest = bs; spelled = inl (small, refl); joined = refl })
  | inr large ↦ elim (cases_lt b 256) [
    | inl byte ↦ elim (closed_at bs) [
      | inl s ↦ inl (record { value = tt; front = b ∷ s.front; rest = s.rest; spelled = inr (large, byte, s.spelled); joined = ap (λ (c : List ℕ). b ∷ c) s.joined })
      | inr lacks ↦ inr (record { none = λ v front rest p e. unfinished b bs large lacks front rest p e })
    ]
    | inr past ↦ inr (record { none = λ v front rest p e. no_group b bs large past front rest p e })
  ]
]

pub found_long : IsFound IsLong
found_long = record { one = PrefixFree-long; find = find } where
  fits : (left : List ℕ) (s : Stands Closed left) → Settled (value_of s.front < 2 ^ 64) → Stands IsLong left ⊎ NoneIsSpelled IsLong left
  fits left s (inl below) = inl (record { value = value_of s.front; front = s.front; rest = s.rest; spelled = record { closed = s.spelled; value = refl; fits = below }; joined = s.joined })
  fits left s (inr not) = inr (record {
    none = λ v front rest p e.
        let same = closed_same s.front front s.rest rest s.spelled p.closed (sym s.joined ∙ e) in
        not (subst (λ (n : ℕ). n < 2 ^ 64) (p.value ∙ ap value_of (sym same)) p.fits);
  })

  find : (left : List ℕ) → Stands IsLong left ⊎ NoneIsSpelled IsLong left
  find left = elim (closed_at left) [
    | inl s ↦ fits left s (settled_below (value_of s.front) (2 ^ 64))
    | inr lacks ↦ inr (record { none = λ v front rest p e. lacks.none tt front rest p.closed e })
  ]

pub zero_long : IsLong 0 (0 ∷ [])
zero_long = record { closed = inl (omega arith, refl); value = refl; fits = omega arith }

-- no canonical file has one like this
abbrev pub long_number : Kind ℕ
long_number = record {
  any = IsLong;
  shortest = IsNever;
  took = LongMay;
  found = found_long;
  one = OneSpelling-never;
  within = record { within = λ v bytes p. absurd p };
  some = record { value = 0; bytes = 0 ∷ []; spelled = zero_long };
  never = record { none = λ bytes h. h };
}

-- such a number for which that holds, as it does for 0
pub long_test : (P : ℕ → Type 0) (reason : Why) → ((n : ℕ) → Settled (P n)) → P 0 → (Write ≡ reason → ⊥) → IsTest IsLong P (Unless P reason)
long_test P reason settled holds other = record { settled = settled; some = HasSome-such P IsLong 0 (0 ∷ []) zero_long holds; never = λ v h. other h.0 }

-- ---- skipped strings

-- this many bytes of any kind
abbrev pub passed : ℕ → Kind Padding
passed count = image_any padding_of (items count byte)

abbrev pub without_length : ℕ × Padding → Padding
without_length p = p.1

-- a length, and that many bytes
abbrev pub long_padding : Kind Padding
long_padding = image_any without_length (pair long_number passed)
