-- What the modal variables hold fits.
use Rattle.std.proofs.Common.{ℕ, Bool, true, false, cond, List, ◌∷◌, Option, None, Some, []}
use Rattle.std.specs.Prelude.{IfSome}
use Rattle.std.specs.Option.{option_or}
use Rattle.std.specs.List.{AllByRecursion}
use Rattle.oas_record.specs.declared.records.Record.{Record}
use Rattle.oas_elements.specs.Sound.{Fits}
use Rattle.oas_file.specs.Drawn.{Drawn}
use Rattle.oas_file.specs.Drawn.TheVariants.{Named, PlacementBy, TextBy}
use Rattle.oas_file.specs.Looking.{is_cell, latest}
use Rattle.oas_file.specs.GivenFields.{GivenFields, given_fields}
use Rattle.oas_file.specs.Values.{field, given_height}
use Rattle.oas_file.specs.Modal.{modal_of}
use Rattle.oas_form.proofs.FieldsGiven.{Small, FieldsFit, GivenFieldsFit}

-- ---- modal variables

either : {A : Type 0} (P : A → Type 0) (o p : Option A) → IfSome o P → IfSome p P → IfSome (option_or o p) P
either P None p h k = k
either P (Some x) p h k = h

unless : {A : Type 0} (P : A → Type 0) (b : Bool) (o : Option A) → IfSome o P → IfSome (cond b None o) P
unless P true o h = tt
unless P false o h = h

-- what the latest record gave fits, where each gives what fits
latest_fits : {A : Type 0} (P : A → Type 0) (gives : Record → List Record → Option A) →
    ((r : Record) (before : List Record) → GivenFieldsFit r → AllByRecursion GivenFieldsFit before → IfSome (gives r before) P) → (rs : List Record) → AllByRecursion GivenFieldsFit rs → IfSome (latest gives rs) P
latest_fits P gives step [] h = tt
latest_fits P gives step (r ∷ before) h =
    unless P (is_cell r) (option_or (gives r before) (latest gives before)) (either P (gives r before) (latest gives before) (step r before h.0 h.1) (latest_fits P gives step before h.1))

by_square : (b : Bool) (o p : Option ℕ) → IfSome o Small → IfSome p Small → IfSome (cond b o p) Small
by_square true o p h k = h
by_square false o p h k = k

module _ (rs : List Record) (h : AllByRecursion GivenFieldsFit rs) where
  -- a variable whose field fits wherever it is given
  pub field_fits : {A : Type 0} (P : A → Type 0) (of : GivenFields → Option A) → ((r : Record) → FieldsFit (given_fields r) → IfSome (of (given_fields r)) P) → IfSome (latest (field of) rs) P
  field_fits P of fits = latest_fits P (field of) (λ r before g a. fits r g.fields) rs h

pub layer_fits : (rs : List Record) → AllByRecursion GivenFieldsFit rs → IfSome (modal_of rs).layer Small
layer_fits rs h = field_fits rs h Small (λ g. g.layer) (λ r f. f.layer)

pub datatype_fits : (rs : List Record) → AllByRecursion GivenFieldsFit rs → IfSome (modal_of rs).datatype Small
datatype_fits rs h = field_fits rs h Small (λ g. g.datatype) (λ r f. f.datatype)

pub width_fits : (rs : List Record) → AllByRecursion GivenFieldsFit rs → IfSome (modal_of rs).width Small
width_fits rs h = field_fits rs h Small (λ g. g.width) (λ r f. f.width)

pub height_fits : (rs : List Record) → AllByRecursion GivenFieldsFit rs → IfSome (modal_of rs).height Small
height_fits rs h =
    latest_fits Small given_height (λ r before g a. by_square (given_fields r).square _ (given_fields r).height (width_fits (r ∷ before) (g, a)) g.fields.height) rs h

-- ---- what is drawn

-- its fields fit, whatever its number means
abbrev pub DrawnFits : Drawn → Type 0
DrawnFits (Named e) = Fits e
DrawnFits (PlacementBy number x y turns flip) = Unit {0}
DrawnFits (TextBy number textlayer texttype x y) = Small textlayer × Small texttype
