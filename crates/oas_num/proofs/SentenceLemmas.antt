-- The row of each reason.
use Rattle.std.proofs.Common.{◌≡◌, ℕ, zero, suc, ◌-◌, List, [], ◌∷◌, map, Some, slice_get, slice_index_or, unwrap_or, refl, ◌∙◌, ap}
use Rattle.std.specs.List.{range_with_len}
use Rattle.oas_num.specs.declared.refusals.Why.{Why}
use Rattle.oas_num.specs.declared.refusals.Why.TheVariants as why
use Rattle.oas_num.specs.Refusals.{number_of, name_of, all_names}

-- what is read of the item at a place
read_at : {X Y : Type 0} (f : X → Y) (xs : List X) (i : ℕ) (other : X) (y : Y) → slice_get (map f xs) i ≡ Some y → f (slice_index_or xs i other) ≡ y
read_at f [] i other y h = let no : ⊥ = cc in absurd no
read_at f (x ∷ xs) zero other y h = ap (λ o. unwrap_or o y) h
read_at f (x ∷ xs) (suc i) other y h = read_at f xs i other y h

-- where these are read of all items, it is the one of them that stands there
pub is_at : {X Y : Type 0} (f : X → Y) (xs : List X) (ys : List Y) (i n : ℕ) (other : X) (y : Y) → map f xs ≡ ys → n ≡ i → slice_get ys i ≡ Some y →
    f (slice_index_or xs n other) ≡ y
is_at f xs ys i n other y same is at = read_at f xs n other y (ap (λ zs. slice_get zs n) same ∙ (ap (λ k. slice_get ys k) is ∙ at))

-- the number at the place of a reason
pub number_at : (why : Why) → slice_get (range_with_len 1 34) (number_of why - 1) ≡ Some (number_of why)
number_at why.Magic = refl
number_at why.Truncated = refl
number_at why.IntegerRange = refl
number_at why.StringByte = refl
number_at why.EmptyName = refl
number_at why.FloatReal = refl
number_at why.RealType = refl
number_at why.Unit = refl
number_at why.Version = refl
number_at why.OffsetFlag = refl
number_at (why.RecordLeftOut id) = refl
number_at (why.UnknownRecord id) = refl
number_at (why.OutOfPlace id) = refl
number_at why.InfoByte = refl
number_at why.ListKind = refl
number_at why.PointCount = refl
number_at why.RepetitionKind = refl
number_at why.ModalUndefined = refl
number_at why.Magnification = refl
number_at why.Angle = refl
number_at why.MixedNumbering = refl
number_at why.NumberTwice = refl
number_at why.CoordinateRange = refl
number_at why.TooManyElements = refl
number_at why.TooHeavy = refl
number_at why.UnknownReference = refl
number_at why.DuplicateCell = refl
number_at why.EndLength = refl
number_at why.ValidationScheme = refl
number_at why.TrailingBytes = refl
number_at why.InputTooLong = refl
number_at why.Read = refl
number_at why.Write = refl
number_at why.Memory = refl

-- the name there
pub name_at : (why : Why) → slice_get all_names (number_of why - 1) ≡ Some (name_of why)
name_at why.Magic = refl
name_at why.Truncated = refl
name_at why.IntegerRange = refl
name_at why.StringByte = refl
name_at why.EmptyName = refl
name_at why.FloatReal = refl
name_at why.RealType = refl
name_at why.Unit = refl
name_at why.Version = refl
name_at why.OffsetFlag = refl
name_at (why.RecordLeftOut id) = refl
name_at (why.UnknownRecord id) = refl
name_at (why.OutOfPlace id) = refl
name_at why.InfoByte = refl
name_at why.ListKind = refl
name_at why.PointCount = refl
name_at why.RepetitionKind = refl
name_at why.ModalUndefined = refl
name_at why.Magnification = refl
name_at why.Angle = refl
name_at why.MixedNumbering = refl
name_at why.NumberTwice = refl
name_at why.CoordinateRange = refl
name_at why.TooManyElements = refl
name_at why.TooHeavy = refl
name_at why.UnknownReference = refl
name_at why.DuplicateCell = refl
name_at why.EndLength = refl
name_at why.ValidationScheme = refl
name_at why.TrailingBytes = refl
name_at why.InputTooLong = refl
name_at why.Read = refl
name_at why.Write = refl
name_at why.Memory = refl
