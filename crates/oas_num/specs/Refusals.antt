-- The numbers and the names of the reasons.
use Rattle.std.specs.Prelude.{ℕ, List, [], ◌∷◌, ◌++◌, codes, decimal}
use Rattle.oas_num.specs.declared.refusals.Refusal.{Refusal}
use Rattle.oas_num.specs.declared.refusals.Why.{Why}
use Rattle.oas_num.specs.declared.refusals.Why.TheVariants as why

-- the number that the command prints for a reason
abbrev pub number_of : Why → ℕ
number_of why.Magic = 1
number_of why.Truncated = 2
number_of why.IntegerRange = 3
number_of why.StringByte = 4
number_of why.EmptyName = 5
number_of why.FloatReal = 6
number_of why.RealType = 7
number_of why.Unit = 8
number_of why.Version = 9
number_of why.OffsetFlag = 10
number_of (why.RecordLeftOut id) = 11
number_of (why.UnknownRecord id) = 12
number_of (why.OutOfPlace id) = 13
number_of why.InfoByte = 14
number_of why.ListKind = 15
number_of why.PointCount = 16
number_of why.RepetitionKind = 17
number_of why.ModalUndefined = 18
number_of why.Magnification = 19
number_of why.Angle = 20
number_of why.MixedNumbering = 21
number_of why.NumberTwice = 22
number_of why.CoordinateRange = 23
number_of why.TooManyElements = 24
number_of why.TooHeavy = 25
number_of why.UnknownReference = 26
number_of why.DuplicateCell = 27
number_of why.EndLength = 28
number_of why.ValidationScheme = 29
number_of why.TrailingBytes = 30
number_of why.InputTooLong = 31
number_of why.Read = 32
number_of why.Write = 33
number_of why.Memory = 34

-- the name of its variant
abbrev pub name_of : Why → List ℕ
name_of why.Magic = codes "Magic"
name_of why.Truncated = codes "Truncated"
name_of why.IntegerRange = codes "IntegerRange"
name_of why.StringByte = codes "StringByte"
name_of why.EmptyName = codes "EmptyName"
name_of why.FloatReal = codes "FloatReal"
name_of why.RealType = codes "RealType"
name_of why.Unit = codes "Unit"
name_of why.Version = codes "Version"
name_of why.OffsetFlag = codes "OffsetFlag"
name_of (why.RecordLeftOut id) = codes "RecordLeftOut"
name_of (why.UnknownRecord id) = codes "UnknownRecord"
name_of (why.OutOfPlace id) = codes "OutOfPlace"
name_of why.InfoByte = codes "InfoByte"
name_of why.ListKind = codes "ListKind"
name_of why.PointCount = codes "PointCount"
name_of why.RepetitionKind = codes "RepetitionKind"
name_of why.ModalUndefined = codes "ModalUndefined"
name_of why.Magnification = codes "Magnification"
name_of why.Angle = codes "Angle"
name_of why.MixedNumbering = codes "MixedNumbering"
name_of why.NumberTwice = codes "NumberTwice"
name_of why.CoordinateRange = codes "CoordinateRange"
name_of why.TooManyElements = codes "TooManyElements"
name_of why.TooHeavy = codes "TooHeavy"
name_of why.UnknownReference = codes "UnknownReference"
name_of why.DuplicateCell = codes "DuplicateCell"
name_of why.EndLength = codes "EndLength"
name_of why.ValidationScheme = codes "ValidationScheme"
name_of why.TrailingBytes = codes "TrailingBytes"
name_of why.InputTooLong = codes "InputTooLong"
name_of why.Read = codes "Read"
name_of why.Write = codes "Write"
name_of why.Memory = codes "Memory"

-- the names in the order of the numbers
abbrev pub all_names : List (List ℕ)
all_names =
    codes "Magic" ∷
    codes "Truncated" ∷
    codes "IntegerRange" ∷
    codes "StringByte" ∷
    codes "EmptyName" ∷
    codes "FloatReal" ∷
    codes "RealType" ∷
    codes "Unit" ∷
    codes "Version" ∷
    codes "OffsetFlag" ∷
    codes "RecordLeftOut" ∷
    codes "UnknownRecord" ∷
    codes "OutOfPlace" ∷
    codes "InfoByte" ∷
    codes "ListKind" ∷
    codes "PointCount" ∷
    codes "RepetitionKind" ∷
    codes "ModalUndefined" ∷
    codes "Magnification" ∷
    codes "Angle" ∷
    codes "MixedNumbering" ∷
    codes "NumberTwice" ∷
    codes "CoordinateRange" ∷
    codes "TooManyElements" ∷
    codes "TooHeavy" ∷
    codes "UnknownReference" ∷
    codes "DuplicateCell" ∷
    codes "EndLength" ∷
    codes "ValidationScheme" ∷
    codes "TrailingBytes" ∷
    codes "InputTooLong" ∷
    codes "Read" ∷
    codes "Write" ∷
    codes "Memory" ∷
    []

-- a reason with its place, in a line
abbrev pub refusal_text : Refusal → List ℕ
refusal_text refusal = codes "refused " ++ (decimal (number_of refusal.why) ++ (codes " at " ++ (decimal refusal.at ++ (codes ": " ++ name_of refusal.why))))
