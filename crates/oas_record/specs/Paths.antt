-- How a path is spelled, after its id (SEMI P39, PATH record).
use Rattle.std.proofs.Common.{◌≡◌, ℕ, ℤ, ◌/◌, ◌%◌, ◌<◌, true, List, Option, Some, None, refl, sym, arith}
use Rattle.std.specs.Prelude.{◌==◌, if◌then◌else◌}
use Rattle.oas_num.specs.Grammar.{IsPair, IsThere}
use Rattle.oas_num.specs.Style.{Style, Shortest, signed_in}
use Rattle.oas_num.specs.Integers.{IsUnsigned}
use Rattle.oas_num.specs.Pieces.{Unless}
use Rattle.oas_num.specs.declared.refusals.Why.{Why}
use Rattle.oas_num.specs.declared.refusals.Why.TheVariants.{InfoByte}
use Rattle.oas_shape.specs.declared.list_use.ListUse.TheVariants as uses
use Rattle.oas_shape.specs.Polylines.{Polyline}
use Rattle.oas_record.specs.declared.paths.Path.{Path}
use Rattle.oas_record.specs.declared.paths.Extension.{Extension}
use Rattle.oas_record.specs.declared.paths.Extension.TheVariants as extension
use Rattle.oas_record.specs.declared.paths.Extensions.{Extensions}
use Rattle.oas_record.specs.declared.spots.Spot.{Spot}
use Rattle.oas_record.specs.FoundParts.{settled_below}
use Rattle.oas_record.specs.Info.{has}
use Rattle.oas_record.specs.Kinds.{Kind, spelled_in, number, signed}
use Rattle.oas_record.specs.Trees.{IsTest, pair, there, image, such_as, number_test, info_byte, info_is}
use Rattle.oas_record.specs.Fields.{Layers, layers, spot, points}

-- ---- extensions

-- the extension of a code: 0 modal, 1 flush, 2 the half-width, 3 the number that follows
abbrev pub extension_of : ℕ → Option ℤ → Extension
extension_of code (Some n) = extension.Explicit n
extension_of code None = if code == 0 then extension.Modal else (if code == 1 then extension.Flush else extension.Half)

-- the scheme is 0000SSEE
abbrev pub IsScheme : ℕ → Type 0
IsScheme scheme = scheme < 16

-- both extensions are numbers
abbrev pub IsCanonicalScheme : ℕ → Type 0
IsCanonicalScheme scheme = scheme ≡ 15

pub scheme_test : IsTest IsUnsigned IsScheme (Unless IsScheme InfoByte)
scheme_test = number_test IsScheme InfoByte (λ scheme. settled_below scheme 16) (omega arith) (λ e. cc)

abbrev pub scheme_kind : Kind ℕ
scheme_kind = such_as number IsScheme IsCanonicalScheme (Unless IsScheme InfoByte) scheme_test

abbrev pub Numbers : Type 0
Numbers = Option ℤ × Option ℤ

-- the numbers that the scheme requires, that of the start first
abbrev pub numbers : ℕ → Kind Numbers
numbers scheme = pair (there (scheme / 4 == 3) signed) (λ _. there (scheme % 4 == 3) signed)

abbrev pub numbers_in : Style → ℕ → Numbers → List ℕ → Type 0
numbers_in style scheme = spelled_in style (numbers scheme)

abbrev pub extensions_of : ℕ × Numbers → Extensions
extensions_of p = record { start = extension_of (p.0 / 4) p.1.0; end = extension_of (p.0 % 4) p.1.1 }

-- the number of an extension that has one
abbrev number_of : Extension → Option ℤ
number_of (extension.Explicit n) = Some n
number_of _ = None

abbrev extensions_back : Extensions → ℕ × Numbers
extensions_back e = (15, (number_of e.start, number_of e.end))

-- where the scheme is 15, both numbers are there
number_back : (code : ℕ) (number : Option ℤ) (a : List ℕ) → IsThere true (signed_in Shortest) number a → number_of (extension_of code number) ≡ number
number_back code (Some n) a p = refl
number_back code None a p = absurd p

pub scheme_back : (u : ℕ × Numbers) (a : List ℕ) → IsPair scheme_kind.shortest (λ scheme. (numbers scheme).shortest) u a → extensions_back (extensions_of u) ≡ u
scheme_back u a p =
    let is : u.0 ≡ 15 = p.first.holds.1 in
    let there : (u.0 / 4 == 3) ≡ true = rw is refl in
    let also : (u.0 % 4 == 3) ≡ true = rw is refl in
    let first : IsThere true (signed_in Shortest) u.1.0 p.second.front = rw there at p.second.first in
    let second : IsThere true (signed_in Shortest) u.1.1 p.second.back = rw also at p.second.second in
    let e = number_back (u.0 / 4) u.1.0 p.second.front first in
    let f = number_back (u.0 % 4) u.1.1 p.second.back second in
    λ i. (sym is i, (e i, f i))

abbrev pub extensions_kind : Kind Extensions
extensions_kind = image extensions_of extensions_back (pair scheme_kind numbers) scheme_back

abbrev pub extensions_in : Style → Extensions → List ℕ → Type 0
extensions_in style = spelled_in style extensions_kind

-- where a read of extensions may fail
abbrev pub ExtensionsTook : Why → List ℕ → Type 0
ExtensionsTook = extensions_kind.took

-- ---- paths

abbrev pub PathFields : Type 0
PathFields = Layers × (Option ℕ × (Option Extensions × (Option Polyline × Spot)))

-- any info byte is one
abbrev pub IsPathInfo : ℕ → Type 0
IsPathInfo info = info < 256

pub zero_allowed : IsPathInfo 0
zero_allowed = omega arith

-- extensions, half-width, point list, x, y, datatype and layer are given
abbrev pub IsCanonicalPath : ℕ → Type 0
IsCanonicalPath info = info ≡ 0xFB

-- EWPXYRDL
abbrev pub path_parts : ℕ → Kind PathFields
path_parts info =
    pair (layers info) (λ _.
    pair (there (has info 64) number) (λ _.
    pair (there (has info 128) extensions_kind) (λ _.
    pair (there (has info 32) (points uses.Path)) (λ _.
    spot (has info 16) (has info 8) (has info 4)))))

abbrev pub path_fields : Style → ℕ → PathFields → List ℕ → Type 0
path_fields style info = spelled_in style (path_parts info)

abbrev pub path_of : ℕ × PathFields → Path
path_of p = record { layer = p.1.0.0; datatype = p.1.0.1; half_width = p.1.1.0; extensions = p.1.1.1.0; points = p.1.1.1.1.0; spot = p.1.1.1.1.1 }

abbrev path_back : Path → ℕ × PathFields
path_back c = (0xFB, ((c.layer, c.datatype), (c.half_width, (c.extensions, (c.points, c.spot)))))

abbrev pub path_kind : Kind Path
path_kind =
    image path_of path_back (pair (info_byte IsPathInfo IsCanonicalPath (λ info. settled_below info 256) zero_allowed) path_parts)
    (λ u bytes p. info_is u p.first.holds.1)

abbrev pub path_in : Style → Path → List ℕ → Type 0
path_in style = spelled_in style path_kind

-- where a read of a path may fail: in its info byte, or in a field that this gives, with those before it whole
abbrev pub PathTook : Why → List ℕ → Type 0
PathTook = path_kind.took
