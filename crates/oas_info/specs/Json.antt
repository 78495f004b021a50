-- A layout's facts as JSON.
use Rattle.std.specs.Prelude.{ℕ, List, [], ◌∷◌, map, flat_map, codes}
use Rattle.oas_num.specs.Ratio.{Ratio}
use Rattle.oas_info.specs.declared.group.Group.{Group}
use Rattle.oas_info.specs.declared.group.Group.TheVariants.{Placements, Texts, Rectangles, Polygons, Paths, Circles, Layer, TextLayer}
use Rattle.oas_info.specs.Groups.{number_of}
use Rattle.serde_json.specs.Data.{Data, number, unsigned, string, array, object, Members, member, no_members}
use Rattle.serde_json.specs.View.{items_of}
use Rattle.serde_json.specs.Written.{compact_text}
use Rattle.oas_info.specs.declared.info.Info.{Info}

-- a member that is a number
abbrev pub counted : List ℕ → ℕ → Members → Members
counted key n rest = member key (number (unsigned n)) rest

-- the strings in order
abbrev pub strings : List (List ℕ) → Data
strings names = array (items_of (map string names))

-- {"den":DEN,"num":NUM}
abbrev pub unit_data : Ratio → Data
unit_data unit = object (counted (codes "den") unit.den (counted (codes "num") unit.num no_members))

-- how many elements of each kind there are, 0 for a kind that isn't there
abbrev pub kinds_data : List (Group × ℕ) → Data
kinds_data groups =
    object
    (counted (codes "circles") (number_of groups Circles)
    (counted (codes "paths") (number_of groups Paths)
    (counted (codes "placements") (number_of groups Placements)
    (counted (codes "polygons") (number_of groups Polygons)
    (counted (codes "rectangles") (number_of groups Rectangles)
    (counted (codes "texts") (number_of groups Texts) no_members))))))

-- {"datatype":DATATYPE,"elements":N,"layer":LAYER}
abbrev pub layer_data : ℕ → ℕ → ℕ → Data
layer_data layer datatype n = object (counted (codes "datatype") datatype (counted (codes "elements") n (counted (codes "layer") layer no_members)))

-- {"elements":N,"textlayer":TEXTLAYER,"texttype":TEXTTYPE}
abbrev pub textlayer_data : ℕ → ℕ → ℕ → Data
textlayer_data textlayer texttype n = object (counted (codes "elements") n (counted (codes "textlayer") textlayer (counted (codes "texttype") texttype no_members)))

-- a group that is a layer, with its number
abbrev pub as_layer : Group → ℕ → List Data
as_layer (Layer layer datatype) n = layer_data layer datatype n ∷ []
as_layer group n = []

-- a group that is a textlayer, with its number
abbrev pub as_textlayer : Group → ℕ → List Data
as_textlayer (TextLayer textlayer texttype) n = textlayer_data textlayer texttype n ∷ []
as_textlayer group n = []

-- the layers, and the textlayers, in the order of the groups
abbrev pub layers : List (Group × ℕ) → List Data
layers groups = flat_map (λ p. as_layer p.0 p.1) groups

abbrev pub textlayers : List (Group × ℕ) → List Data
textlayers groups = flat_map (λ p. as_textlayer p.0 p.1) groups

-- all facts; the members are in the order of their keys
abbrev pub info_data : Info → Data
info_data i =
    object
    (counted (codes "cells") i.facts.cells
    (counted (codes "elements") i.facts.elements
    (member (codes "kinds") (kinds_data i.facts.groups.entries)
    (member (codes "layers") (array (items_of (layers i.facts.groups.entries)))
    (counted (codes "size") i.size
    (member (codes "textlayers") (array (items_of (textlayers i.facts.groups.entries)))
    (member (codes "undefined") (strings i.facts.undefined.items)
    (member (codes "unit") (unit_data i.facts.unit)
    (member (codes "unplaced") (strings i.facts.unplaced.items)
    (counted (codes "weight") i.facts.weight no_members))))))))))

-- its text, without spaces
abbrev pub info_json : Info → List ℕ
info_json i = compact_text (info_data i)
