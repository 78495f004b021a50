-- How the end of a file is spelled, after its id (SEMI P39, END record).
use Rattle.std.proofs.Common.{◌≡◌, ℕ, zero, suc, Bool, true, false, List, [], ◌∷◌, ◌++◌, replicate, inl, inr, refl, sym, ◌∙◌, arith}
use Rattle.oas_num.specs.declared.refusals.Why.{Why}
use Rattle.oas_num.specs.declared.refusals.Why.TheVariants.{ValidationScheme}
use Rattle.oas_num.specs.declared.padding.Padding.{Padding}
use Rattle.oas_num.specs.Grammar.{IsImage, IsEach, IsByte}
use Rattle.oas_num.specs.Combinators.{OneSpelling, IsWithin}
use Rattle.oas_num.specs.Integers.{IsUnsigned}
use Rattle.oas_num.specs.Pieces.{Unless}
use Rattle.oas_num.specs.Style.{Style}
use Rattle.oas_record.specs.Found.{settled_number}
use Rattle.oas_record.specs.Kinds.{Kind, spelled_in, number, padding}
use Rattle.oas_record.specs.Trees.{IsTest, pair, items, either, exactly, such, image_any, shortest_as, number_test}

-- ---- table-offsets

-- what is read and not kept
abbrev pub nothing : {V : Type 0} → V → Unit {0}
nothing v = tt

-- six pairs of a flag and an offset, of any values (SEMI P39, table-offsets)
abbrev pub offsets_kind : Kind (Unit {0})
offsets_kind = image_any nothing (items 12 number)

abbrev pub IsOffsets : Unit {0} → List ℕ → Type 0
IsOffsets = offsets_kind.any

-- where a read of them may fail
abbrev pub OffsetsTook : Why → List ℕ → Type 0
OffsetsTook = offsets_kind.took

-- the same, where there are any
abbrev pub offsets_part : Bool → Kind (Unit {0})
offsets_part there = either there offsets_kind (exactly [])

abbrev pub offsets_if : Bool → Unit {0} → List ℕ → Type 0
offsets_if there = (offsets_part there).any

abbrev pub OffsetsIfTook : Bool → Why → List ℕ → Type 0
OffsetsIfTook there = (offsets_part there).took

-- ---- END

-- a number that is this one
abbrev pub IsNumber : ℕ → ℕ → Type 0
IsNumber wanted n = n ≡ wanted

pub scheme_test : IsTest IsUnsigned (IsNumber 0) (Unless (IsNumber 0) ValidationScheme)
scheme_test = number_test (IsNumber 0) ValidationScheme (λ n. settled_number n 0) refl (λ e. cc)

-- table-offsets where START says so, padding and validation-scheme 0
abbrev pub EndParts : Type 0
EndParts = Unit {0} × (Padding × ℕ)

abbrev pub end_parts : Bool → Kind EndParts
end_parts in_end = pair (offsets_part in_end) (λ _. pair padding (λ _. such number (IsNumber 0) (Unless (IsNumber 0) ValidationScheme) scheme_test))

abbrev pub no_padding : List ℕ
no_padding = replicate 252 0

-- the canonical ending
unfoldable pub end_bytes : List ℕ
end_bytes = (252 ∷ 1 ∷ no_padding) ++ (0 ∷ [])

-- no canonical END has table-offsets
abbrev pub shortest_end : Bool → Unit {0} → List ℕ → Type 0
shortest_end true done bytes = ⊥
shortest_end false done bytes = bytes ≡ end_bytes

pub zeros : (n : ℕ) → IsEach IsByte (replicate n 0) (replicate n 0)
zeros zero = refl
zeros (suc n) = (0 ∷ [], replicate n 0, record { only = refl; small = omega arith }, zeros n, refl)

two_groups : IsUnsigned 252 (252 ∷ 1 ∷ [])
two_groups = record { closed = inr (omega arith, omega arith, inl (omega arith, refl)); short = omega arith; value = omega arith; fits = omega arith }

pub zero_group : IsUnsigned 0 (0 ∷ [])
zero_group = record { closed = inl (omega arith, refl); short = omega arith; value = omega arith; fits = omega arith }

end_within : (in_end : Bool) (v : Unit {0}) (a : List ℕ) → shortest_end in_end v a → IsImage nothing (end_parts in_end).any v a
unfolding end_bytes
end_within true v a p = absurd p
end_within false v a p = record {
  from = (tt, (record { length = 252 }, 0));
  is = refl;
  spelled = record {
    front = [];
    back = end_bytes;
    first = refl;
    joined = p;
    second = record {
      front = 252 ∷ 1 ∷ no_padding;
      back = 0 ∷ [];
      joined = refl;
      first = record {
        front = 252 ∷ 1 ∷ [];
        back = no_padding;
        joined = refl;
        first = two_groups;
        second = record { from = no_padding; is = refl; spelled = record { len = refl; each = zeros 252 } };
      };
      second = record { holds = refl; spelled = zero_group };
    };
  };
}

pub IsWithin-end : (in_end : Bool) → IsWithin (shortest_end in_end) (IsImage nothing (end_parts in_end).any)
IsWithin-end in_end = record { within = end_within in_end }

end_same : (in_end : Bool) (v : Unit {0}) (a b : List ℕ) → shortest_end in_end v a → shortest_end in_end v b → a ≡ b
end_same true v a b p q = absurd p
end_same false v a b p q = p ∙ sym q

pub OneSpelling-end : (in_end : Bool) → OneSpelling (shortest_end in_end)
OneSpelling-end in_end = record { same = end_same in_end }

-- what follows END's id
abbrev pub end_kind : Bool → Kind (Unit {0})
end_kind in_end = shortest_as (image_any nothing (end_parts in_end)) (shortest_end in_end) (OneSpelling-end in_end) (IsWithin-end in_end)

abbrev pub end_in : Style → Bool → Unit {0} → List ℕ → Type 0
end_in style in_end = spelled_in style (end_kind in_end)

-- where a read of what follows END's id may fail
abbrev pub EndTook : Bool → Why → List ℕ → Type 0
EndTook in_end = (end_kind in_end).took
