-- Reading the fields that several kinds have.
use Rattle.std.proofs.Common.{ℕ, ◌<◌, ◌≤◌, Bool, arith}
use Rattle.oas_num.specs.Script.{Script}
use Rattle.oas_num.specs.Grammar.{PrefixFree, IsSuch, IsThere}
use Rattle.oas_num.specs.Laws.GrammarLaws.{PrefixFree-there}
use Rattle.oas_num.specs.Reading.{ReadsValue}
use Rattle.oas_num.proofs.GrammarLemmas.{such_read}
use Rattle.oas_num.specs.Style.{Style, Any}
use Rattle.oas_num.specs.Reals.{SpellsReal}
use Rattle.oas_num.specs.Laws.RealLaws.{PrefixFree-SpellsReal}
use Rattle.oas_num.specs.Integers.{IsUnsigned, IsSigned}
use Rattle.oas_num.specs.Laws.IntegerLaws.{PrefixFree-IsSigned}
use Rattle.oas_shape.specs.declared.list_use.ListUse.{ListUse}
use Rattle.oas_shape.specs.PointLists.{point_list_in}
use Rattle.oas_shape.specs.Laws.PointListLaws.{PrefixFree-point_list}
use Rattle.oas_record.specs.References.{cell_kind, cell_in, string_kind, text_in}
use Rattle.oas_record.specs.Kinds.{front_in}
use Rattle.oas_record.specs.Ends.{offsets_if, offsets_part}
use Rattle.oas_record.specs.Fields.{layers, layers_in}
use Rattle.oas_record.specs.Paths.{IsScheme, scheme_kind, extensions_kind, extensions_in}

pub PrefixFree-layers : (style : Style) (info : ℕ) → PrefixFree (layers_in style info)
PrefixFree-layers style info = front_in style (layers info)

pub PrefixFree-offsets_if : (there : Bool) → PrefixFree (offsets_if there)
PrefixFree-offsets_if there = (offsets_part there).found.one

pub PrefixFree-signed_if : (there : Bool) → PrefixFree (IsThere there IsSigned)
PrefixFree-signed_if there = PrefixFree-there there IsSigned PrefixFree-IsSigned

pub PrefixFree-real_if : (there : Bool) → PrefixFree (IsThere there SpellsReal)
PrefixFree-real_if there = PrefixFree-there there SpellsReal PrefixFree-SpellsReal

pub PrefixFree-points_if : (there : Bool) (list_use : ListUse) → PrefixFree (IsThere there (point_list_in Any list_use))
PrefixFree-points_if there list_use = PrefixFree-there there (point_list_in Any list_use) (PrefixFree-point_list Any list_use)

pub PrefixFree-cell_if : (there numbered : Bool) → PrefixFree (IsThere there (cell_in Any numbered))
PrefixFree-cell_if there numbered = PrefixFree-there there (cell_in Any numbered) (cell_kind numbered).found.one

pub PrefixFree-text_if : (there numbered : Bool) → PrefixFree (IsThere there (text_in Any numbered))
PrefixFree-text_if there numbered = PrefixFree-there there (text_in Any numbered) (string_kind numbered).found.one

pub PrefixFree-extensions_if : (there : Bool) → PrefixFree (IsThere there (extensions_in Any))
PrefixFree-extensions_if there = PrefixFree-there there (extensions_in Any) extensions_kind.found.one

-- an extension-scheme
pub scheme_field : {old new : Script} {scheme : ℕ} → scheme < 16 → ReadsValue IsUnsigned old scheme new → PrefixFree (IsSuch IsScheme IsUnsigned) × ReadsValue (IsSuch IsScheme IsUnsigned) old scheme new
scheme_field {old = old} {new = new} {scheme = scheme} lt read = (scheme_kind.found.one, such_read IsScheme IsUnsigned old new scheme lt read)

pub other_scheme : {scheme : ℕ} → 16 ≤ scheme → ¬ IsScheme scheme
other_scheme le lt = omega (arith, lt, le)
