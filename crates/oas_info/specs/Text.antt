-- A layout's facts as text.
use Rattle.std.specs.Prelude.{ℕ, List, [], ◌∷◌, ◌++◌, length, flat_map, codes, decimal}
use Rattle.oas_num.specs.Ratio.{Ratio}
use Rattle.oas_info.specs.declared.group.Group.{Group}
use Rattle.oas_info.specs.declared.group.Group.TheVariants.{Placements, Texts, Rectangles, Polygons, Paths, Circles, Layer, TextLayer}
use Rattle.oas_info.specs.declared.info.Info.{Info}

-- a field after a space
abbrev pub behind_space : List ℕ → List ℕ
behind_space field = 32 ∷ field

-- a number after a space
abbrev pub spaced_number : ℕ → List ℕ
spaced_number n = 32 ∷ decimal n

-- the end of the line before, a word, and numbers
abbrev pub number_line : List ℕ → List ℕ → List ℕ
number_line word numbers = (10 ∷ word) ++ flat_map spaced_number numbers

-- the same, with how many names there are, and then the names
abbrev pub name_line : List ℕ → List (List ℕ) → List ℕ
name_line word names = number_line word (length names ∷ []) ++ flat_map behind_space names

-- how many elements are in a group
abbrev pub group_line : Group → ℕ → List ℕ
group_line Placements n = number_line (codes "placements") (n ∷ [])
group_line Texts n = number_line (codes "texts") (n ∷ [])
group_line Rectangles n = number_line (codes "rectangles") (n ∷ [])
group_line Polygons n = number_line (codes "polygons") (n ∷ [])
group_line Paths n = number_line (codes "paths") (n ∷ [])
group_line Circles n = number_line (codes "circles") (n ∷ [])
group_line (Layer layer datatype) n = number_line (codes "layer") (layer ∷ datatype ∷ n ∷ [])
group_line (TextLayer textlayer texttype) n = number_line (codes "textlayer") (textlayer ∷ texttype ∷ n ∷ [])

-- a line for each group
abbrev pub group_lines : List (Group × ℕ) → List ℕ
group_lines groups = flat_map (λ p. group_line p.0 p.1) groups

-- unit NUM/DEN
abbrev pub unit_line : Ratio → List ℕ
unit_line unit = codes "unit" ++ (spaced_number unit.num ++ (47 ∷ decimal unit.den))

-- all lines; the last one's end is still to come
abbrev pub info_text : Info → List ℕ
info_text i =
    unit_line i.facts.unit
    ++ (number_line (codes "cells") (i.facts.cells ∷ [])
    ++ (name_line (codes "undefined") i.facts.undefined.items
    ++ (name_line (codes "unplaced") i.facts.unplaced.items
    ++ (number_line (codes "elements") (i.facts.elements ∷ [])
    ++ (group_lines i.facts.groups.entries
    ++ (number_line (codes "weight") (i.facts.weight ∷ [])
    ++ number_line (codes "size") (i.size ∷ [])))))))
