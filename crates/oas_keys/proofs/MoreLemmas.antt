-- How many bytes come after a first byte is one look-up in the table.
use Rattle.std.proofs.Common.{◌≡◌, ℕ, ◌<◌, map, get_or, refl, ap, ◌∙◌, arith}
use Rattle.std.specs.List.{range_with_len}
use Rattle.std.proofs.lemmas.List.FromFn.{get_or-map-range_with_len}
use Rattle.oas_keys.specs.Numbers.{signed_classes}
use Rattle.oas_keys.specs.Reading.{more_with}
use Rattle.oas_keys.specs.declared.more.TheConstants.{MORE}

-- each entry of the table is what the classes say of its place
table_is : MORE.now ≡ map (more_with signed_classes 1) (range_with_len 0 256)
table_is = refl

pub table_at : (i : ℕ) → i < 256 → get_or MORE.now i 0 ≡ more_with signed_classes 1 i
table_at i h = ap (λ t. get_or t i 0) table_is ∙ get_or-map-range_with_len (more_with signed_classes 1) 0 256 i i 0 h (omega arith)
