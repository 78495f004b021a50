-- What of two layouts is compared: the cells with some names, and the elements on some layers.
use Rattle.std.specs.Prelude.{ℕ, ◌==◌, ◌&&◌, Bool, true, false, List, [], ◌∷◌, cond, Option, None, Some, unwrap_or}
use Rattle.std.specs.Borrow.{Bor}
use Rattle.std.specs.List.{filter, list_any}
use Rattle.std.specs.Cmp.Lexicographic.{pointwise}
use Rattle.oas_elements.specs.declared.element.Element.{Element}
use Rattle.oas_elements.specs.declared.element.Element.TheVariants.{Placement, Text, Rectangle, Polygon, Path, Circle}
use Rattle.oas_elements.specs.Meaning.{Meaning}
use Rattle.oas_diff_options.specs.declared.choice.ChosenLayer.{ChosenLayer}
use Rattle.oas_diff_options.specs.declared.choice.Choice.{Choice}

-- ---- elements

-- the layer and the datatype of an element; a placement is on no layer
abbrev pub layer_of : Element → Option (ℕ × ℕ)
layer_of (Placement cell x y turns flip) = None
layer_of (Text string textlayer texttype x y) = Some (textlayer, texttype)
layer_of (Rectangle layer datatype width height x y) = Some (layer, datatype)
layer_of (Polygon layer datatype points) = Some (layer, datatype)
layer_of (Path layer datatype half_width start end points) = Some (layer, datatype)
layer_of (Circle layer datatype radius x y) = Some (layer, datatype)

-- whether that datatype is meant: each, or this one
abbrev pub is_datatype : Option ℕ → ℕ → Bool
is_datatype None datatype = true
is_datatype (Some only) datatype = only == datatype

-- whether that layer with that datatype is meant
abbrev pub is_layer : ChosenLayer → ℕ × ℕ → Bool
is_layer chosen p = (chosen.layer == p.0) && is_datatype chosen.datatype p.1

abbrev pub is_on : List ChosenLayer → Option (ℕ × ℕ) → Bool
is_on layers None = false
is_on layers (Some p) = list_any (λ one. is_layer one p) layers

-- whether an element is compared: each, or those on one of the layers
abbrev pub is_shown : Option (Bor (List ChosenLayer)) → Element → Bool
is_shown None e = true
is_shown (Some layers) e = is_on layers.now (layer_of e)

-- The elements of a cell, where it is there. Where layers are named, only elements are compared, and a cell that is not there
-- has none.
abbrev pub or_empty : {A : Type 0} → Option (Bor (List ChosenLayer)) → Option (List A) → Option (List A)
or_empty None elements = elements
or_empty (Some layers) elements = Some (unwrap_or elements [])

-- ---- cells

-- whether the cells with that name are compared: each, or those that are named
abbrev pub is_named : Option (Bor (List (Bor (List ℕ)))) → List ℕ → Bool
is_named None name = true
is_named (Some cells) name = list_any (λ cell. pointwise ◌==◌ cell.now name) cells.now

-- these cells alone, with these elements alone
abbrev pub chosen_cells : Choice → List (List ℕ × List Element) → List (List ℕ × List Element)
chosen_cells choice [] = []
chosen_cells choice (c ∷ cs) =
    cond (is_named choice.cells c.0) ((c.0, filter (is_shown choice.layers) c.1) ∷ chosen_cells choice cs) (chosen_cells choice cs)

-- ---- a layout

-- what of it is compared: its unit, and these cells with these elements
abbrev pub chosen : Choice → Meaning → Meaning
chosen choice m = record { unit = m.unit; cells = chosen_cells choice m.cells }
