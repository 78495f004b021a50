-- How a text is spelled, after its id (SEMI P39, TEXT record).
use Rattle.std.proofs.Common.{◌≡◌, ℕ, ◌<◌, List, Option, arith}
use Rattle.oas_num.specs.Style.{Style}
use Rattle.oas_num.specs.declared.refusals.Why.{Why}
use Rattle.oas_record.specs.declared.texts.Text.{Text}
use Rattle.oas_record.specs.declared.references.TextRef.{TextRef}
use Rattle.oas_record.specs.declared.spots.Spot.{Spot}
use Rattle.oas_record.specs.FoundParts.{settled_below}
use Rattle.oas_record.specs.Info.{has}
use Rattle.oas_record.specs.Kinds.{Kind, spelled_in}
use Rattle.oas_record.specs.Trees.{pair, there, image, info_byte, info_is}
use Rattle.oas_record.specs.References.{string_kind}
use Rattle.oas_record.specs.Fields.{Layers, layers, spot}

abbrev pub TextFields : Type 0
TextFields = Option TextRef × (Layers × Spot)

-- bit 7 is 0
abbrev pub IsTextInfo : ℕ → Type 0
IsTextInfo info = info < 128

pub zero_allowed : IsTextInfo 0
zero_allowed = omega arith

-- the string itself, x, y, texttype and textlayer are given
abbrev pub IsCanonicalText : ℕ → Type 0
IsCanonicalText info = info ≡ 0x5B

-- 0CNXYRTL
abbrev pub text_parts : ℕ → Kind TextFields
text_parts info =
    pair (there (has info 64) (string_kind (has info 32))) (λ _.
    pair (layers info) (λ _.
    spot (has info 16) (has info 8) (has info 4)))

abbrev pub text_fields : Style → ℕ → TextFields → List ℕ → Type 0
text_fields style info = spelled_in style (text_parts info)

abbrev pub text_of : ℕ × TextFields → Text
text_of p = record { string = p.1.0; textlayer = p.1.1.0.0; texttype = p.1.1.0.1; spot = p.1.1.1 }

abbrev text_back : Text → ℕ × TextFields
text_back c = (0x5B, (c.string, ((c.textlayer, c.texttype), c.spot)))

abbrev pub text_kind : Kind Text
text_kind =
    image text_of text_back (pair (info_byte IsTextInfo IsCanonicalText (λ info. settled_below info 128) zero_allowed) text_parts)
    (λ u bytes p. info_is u p.first.holds.1)

abbrev pub text_record_in : Style → Text → List ℕ → Type 0
text_record_in style = spelled_in style text_kind

-- where a read of a text may fail: in its info byte, or in a field that this gives, with those before it whole
abbrev pub TextTook : Why → List ℕ → Type 0
TextTook = text_kind.took
