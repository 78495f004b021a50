-- The fields of a record, in any style: names, strings and numbers of 64 bits, each where it is given.
use Rattle.std.proofs.Common.{◌≡◌, ℕ, ◌<◌, ◌^◌, Bool, true, false, List, ◌∷◌, Option, None, Some, subst, []}
use Rattle.std.specs.Prelude.{IfSome}
use Rattle.oas_num.specs.Grammar.{IsSuch, IsThere, IsEach, IsByte}
use Rattle.oas_num.specs.Style.{Any, unsigned_in}
use Rattle.oas_num.specs.Texts.{IsNameByte, IsLabelByte, IsOf, IsName, IsLabel, name_in, label_in}
use Rattle.oas_record.specs.declared.records.Record.{Record}
use Rattle.oas_record.specs.declared.records.Record.TheVariants as record_of
use Rattle.oas_record.specs.declared.references.CellRef.{CellRef}
use Rattle.oas_record.specs.declared.references.CellRef.TheVariants as cell
use Rattle.oas_record.specs.declared.references.TextRef.{TextRef}
use Rattle.oas_record.specs.declared.references.TextRef.TheVariants as text
use Rattle.oas_record.specs.References.{cell_in, text_in}
use Rattle.oas_record.specs.Records.{id_of, after_id}
use Rattle.oas_file.specs.GivenFields.{GivenFields, given_fields}

-- ---- what fits

abbrev pub Small : ℕ → Type 0
Small n = n < 2 ^ 64

abbrev pub CellFits : CellRef → Type 0
CellFits (cell.Number number) = Unit {0}
CellFits (cell.Name name) = IsName name

abbrev pub StringFits : TextRef → Type 0
StringFits (text.Number number) = Unit {0}
StringFits (text.Label label) = IsLabel label

-- the fields, each where it is given
pub record FieldsFit (g : GivenFields) : Type 0 where
  pub cell : IfSome g.cell CellFits
  pub string : IfSome g.string StringFits
  pub textlayer : IfSome g.textlayer Small
  pub texttype : IfSome g.texttype Small
  pub layer : IfSome g.layer Small
  pub datatype : IfSome g.datatype Small
  pub width : IfSome g.width Small
  pub height : IfSome g.height Small
  pub half_width : IfSome g.half_width Small
  pub radius : IfSome g.radius Small

-- the name of a cell or a string
abbrev pub NameFits : Record → Type 0
NameFits (record_of.CellName name number) = IsName name
NameFits (record_of.TextString label number) = IsLabel label
NameFits (record_of.Cell c) = CellFits c
NameFits _ = Unit {0}

-- what a record gives
pub record GivenFieldsFit (r : Record) : Type 0 where
  pub name : NameFits r
  pub fields : FieldsFit (given_fields r)

pub fit : {g : GivenFields} → IfSome g.cell CellFits → IfSome g.string StringFits → IfSome g.textlayer Small → IfSome g.texttype Small → IfSome g.layer Small → IfSome g.datatype Small →
    IfSome g.width Small → IfSome g.height Small → IfSome g.half_width Small → IfSome g.radius Small → FieldsFit g
fit c s a b l d w h p r = record { cell = c; string = s; textlayer = a; texttype = b; layer = l; datatype = d; width = w; height = h; half_width = p; radius = r }

-- ---- fields

class_of : (class : ℕ → Type 0) (string bytes : List ℕ) → IsEach (IsSuch class IsByte) string bytes → IsOf class string
class_of class [] bytes h = tt
class_of class (b ∷ bs) bytes h = (h.2.holds, class_of class bs h.1 h.3)

name_fits : (name bytes : List ℕ) → name_in Any name bytes → IsName name
name_fits name bytes h = record { some = h.first.holds; fits = h.first.spelled.fits; class = class_of IsNameByte name h.back h.second.each }

label_fits : (label bytes : List ℕ) → label_in Any label bytes → IsLabel label
label_fits label bytes h = record { fits = h.first.fits; class = class_of IsLabelByte label h.back h.second.each }

pub cell_fits : (numbered : Bool) (c : CellRef) (bytes : List ℕ) → cell_in Any numbered c bytes → CellFits c
cell_fits true c bytes h = subst CellFits h.is tt
cell_fits false c bytes h = subst CellFits h.is (name_fits h.from bytes h.spelled)

pub string_fits : (numbered : Bool) (t : TextRef) (bytes : List ℕ) → text_in Any numbered t bytes → StringFits t
string_fits true t bytes h = subst StringFits h.is tt
string_fits false t bytes h = subst StringFits h.is (label_fits h.from bytes h.spelled)

-- an optional field
pub there : {V : Type 0} (P : V → Type 0) (spells : V → List ℕ → Type 0) → ((v : V) (bytes : List ℕ) → spells v bytes → P v) → (here : Bool) (o : Option V) (bytes : List ℕ) →
    IsThere here spells o bytes → IfSome o P
there P spells fits true (Some v) bytes h = fits v bytes h
there P spells fits true None bytes h = tt
there P spells fits false (Some v) bytes h = absurd h
there P spells fits false None bytes h = tt

pub small : (here : Bool) (o : Option ℕ) (bytes : List ℕ) → IsThere here (unsigned_in Any) o bytes → IfSome o Small
small here o bytes h = there Small (unsigned_in Any) (λ n b s. s.fits) here o bytes h

-- ---- records

-- what was spelled
pub moved_fits : {V : Type 0} (kind : V → Record) (v w : V) → v ≡ w → FieldsFit (given_fields (kind v)) → FieldsFit (given_fields (kind w))
moved_fits kind v w is = subst (λ (u : _). FieldsFit (given_fields (kind u))) is

-- the name that follows an id
pub name_after : (in_end : Bool) (r : Record) (bytes : List ℕ) → after_id Any in_end (id_of r) r bytes → NameFits r
name_after in_end (record_of.CellName name None) bytes h = subst NameFits h.is (name_fits h.from.0 _ h.spelled.first)
name_after in_end (record_of.CellName name (Some number)) bytes h = subst NameFits h.is (name_fits h.from.0 _ h.spelled.first)
name_after in_end (record_of.TextString label None) bytes h = subst NameFits h.is (label_fits h.from.0 _ h.spelled.first)
name_after in_end (record_of.TextString label (Some number)) bytes h = subst NameFits h.is (label_fits h.from.0 _ h.spelled.first)
name_after in_end (record_of.Cell (cell.Number number)) bytes h = tt
name_after in_end (record_of.Cell (cell.Name name)) bytes h = subst NameFits h.is (cell_fits false h.from _ h.spelled)
name_after in_end _ bytes h = tt
