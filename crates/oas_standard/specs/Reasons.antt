-- The reasons for which files of the standard are refused.
use Rattle.std.specs.Prelude.{ℕ, ◌==◌, if◌then◌else◌}
use Rattle.oas_num.specs.declared.refusals.Why.{Why}
use Rattle.oas_num.specs.declared.refusals.Why.TheVariants as why
use Rattle.oas_num.specs.Refusals.{number_of}
use Rattle.oas_standard.specs.declared.reasons.WideWhy.{WideWhy}
use Rattle.oas_standard.specs.declared.reasons.WideWhy.TheVariants as wide

-- the number that names a reason
abbrev pub wide_number_of : WideWhy → ℕ
wide_number_of (wide.Profile reason) = number_of reason
wide_number_of wide.Properties = 101
wide_number_of wide.LayerNames = 102
wide_number_of wide.Extensions = 103
wide_number_of wide.CblockType = 104
wide_number_of wide.CblockNested = 105
wide_number_of wide.CblockLength = 106
wide_number_of wide.CblockBorder = 107
wide_number_of wide.Deflate = 108
wide_number_of wide.Trapezoid = 109
wide_number_of wide.CtrapezoidType = 110
wide_number_of wide.ValueType = 111
wide_number_of wide.IntervalType = 112
wide_number_of wide.Checksum = 113

-- The name of a reason that was found after an id. Neither a CTRAPEZOID nor a LAYERNAME has zero bits, so an InfoByte of
-- theirs is about a number that says which kind it is; and all reals of a PROPERTY have types that exist.
abbrev pub named : ℕ → Why → WideWhy
named id why.InfoByte = if id == 26 then wide.CtrapezoidType else (if id == 11 then wide.IntervalType else (if id == 12 then wide.IntervalType else wide.Profile why.InfoByte))
named id why.RealType = if id == 28 then wide.ValueType else wide.Profile why.RealType
named id reason = wide.Profile reason

-- The reason of the profile in its place where a read is refused: a further one is always about the bytes.
abbrev pub plain_of : WideWhy → Why
plain_of (wide.Profile reason) = reason
plain_of wide.ValueType = why.RealType
plain_of _ = why.InfoByte
