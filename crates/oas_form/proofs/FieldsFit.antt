-- The names, strings and numbers of the shortest style, each where it is given.
use Rattle.std.proofs.Common.{◌≡◌, ℕ, ◌<◌, ◌^◌, Bool, true, false, List, ◌∷◌, Option, Some, subst, arith, []}
use Rattle.oas_num.specs.Grammar.{IsSuch, IsThere, IsEach, IsByte}
use Rattle.oas_num.specs.Style.{Shortest, unsigned_in}
use Rattle.oas_num.specs.Texts.{IsNameByte, IsLabelByte, IsOf, IsName, IsLabel, name_in, label_in}
use Rattle.oas_num.specs.Reals.{IsPart, has_num, has_den, kind_of}
use Rattle.oas_num.specs.Ratio.{Ratio}
use Rattle.oas_num.specs.declared.reals.Real.{Real}
use Rattle.oas_record.specs.declared.references.CellRef.TheVariants as cell
use Rattle.oas_record.specs.declared.references.TextRef.TheVariants as text
use Rattle.oas_record.specs.References.{cell_in, text_in}
use Rattle.oas_record.specs.Heads.{ShortestUnit}
use Rattle.oas_elements.specs.Sound.{IsUnit}

-- ---- strings, numbers, and the unit

class_of : (class : ℕ → Type 0) (string bytes : List ℕ) → IsEach (IsSuch class IsByte) string bytes → IsOf class string
class_of class [] bytes h = tt
class_of class (b ∷ bs) bytes h = (h.2.holds, class_of class bs h.1 h.3)

name_fits : (name bytes : List ℕ) → name_in Shortest name bytes → IsName name
name_fits name bytes h = record { some = h.first.holds; fits = h.first.spelled.spelled.fits; class = class_of IsNameByte name h.back h.second.each }

label_fits : (label bytes : List ℕ) → label_in Shortest label bytes → IsLabel label
label_fits label bytes h = record { fits = h.first.spelled.fits; class = class_of IsLabelByte label h.back h.second.each }

part_fits : (here : Bool) (n : ℕ) (bytes : List ℕ) → IsPart here n bytes → n < 2 ^ 64
part_fits true n bytes h = h.spelled.fits
part_fits false n bytes h = omega (arith, h.1)

-- the unit as a real that isn't negative
abbrev real : Ratio → Real
real u = record { negative = false; num = u.num; den = u.den }

pub unit_fits : (u : Ratio) (bytes : List ℕ) → ShortestUnit u bytes → IsUnit u
unit_fits u bytes h = record {
  lowest = h.lowest;
  num = part_fits (has_num (kind_of (real u))) u.num h.spelled.second.front h.spelled.second.first;
  den = part_fits (has_den (kind_of (real u))) u.den h.spelled.second.back h.spelled.second.second;
}

-- ---- fields that are given

pub is_spelled : {X : Type 0} (here : Bool) (spells : X → List ℕ → Type 0) (o : Option X) (v : X) (bytes : List ℕ) → o ≡ Some v → IsThere here spells o bytes → spells v bytes
is_spelled {X} here spells o v bytes e h = by here (subst (λ (p : Option X). IsThere here spells p bytes) e h) where
  by : (here : Bool) → IsThere here spells (Some v) bytes → spells v bytes
  by true h = h
  by false h = absurd h

pub number_fits : (here : Bool) (o : Option ℕ) (n : ℕ) (bytes : List ℕ) → o ≡ Some n → IsThere here (unsigned_in Shortest) o bytes → n < 2 ^ 64
number_fits here o n bytes e h = (is_spelled here (unsigned_in Shortest) o n bytes e h).spelled.fits

pub named_fits : (numbered : Bool) (name bytes : List ℕ) → cell_in Shortest numbered (cell.Name name) bytes → IsName name
named_fits true name bytes h = let no : ⊥ = cc (h.is) in absurd no
named_fits false name bytes h = let e : h.from ≡ name = cc (h.is) in subst IsName e (name_fits h.from bytes h.spelled)

pub labelled_fits : (numbered : Bool) (string bytes : List ℕ) → text_in Shortest numbered (text.Label string) bytes → IsLabel string
labelled_fits true string bytes h = let no : ⊥ = cc (h.is) in absurd no
labelled_fits false string bytes h = let e : h.from ≡ string = cc (h.is) in subst IsLabel e (label_fits h.from bytes h.spelled)
