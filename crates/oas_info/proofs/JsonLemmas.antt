-- The data of a layout's facts: lists that grow, and no float.
use Rattle.std.proofs.Common.{◌≡◌, ℕ, zero, suc, List, [], ◌∷◌, ◌++◌, Bool, true, false, ◌||◌, map, refl, ap, arith}
use Rattle.std.specs.Prelude.{unwrap_or, IsUtf8, IsAscii}
use Rattle.std.specs.declared.cmp.Ordering.{Ordering}
use Rattle.std.specs.Map.{lookup}
use Rattle.std.specs.BTreeMap.{BTreeMap, is_at, get}
use Rattle.std.proofs.lemmas.Str.{IsUtf8-from_ascii}
use Rattle.oas_num.specs.Texts.{IsOf, IsNameByte, IsName}
use Rattle.oas_info.specs.declared.group.Group.{Group}
use Rattle.oas_info.specs.declared.group.Group.TheVariants.{Placements, Texts, Rectangles, Polygons, Paths, Circles, Layer, TextLayer}
use Rattle.oas_info.specs.Groups.{number_of}
use Rattle.oas_info.specs.Laws.GroupLaws.{derived_cmp, stated_cmp}
use Rattle.serde_json.specs.Data.{Data, string}
use Rattle.serde_json.specs.View.{items_of}
use Rattle.serde_json.specs.Written.{has_float, items_have_float}
use Rattle.oas_info.specs.declared.info.Info.{Info}
use Rattle.oas_info.specs.Json.{as_layer, as_textlayer, layers, textlayers, info_data}

-- ---- no float

neither : (a b : Bool) → a ≡ false → b ≡ false → (a || b) ≡ false
neither true b e f = e
neither false b e f = f

strings_no_float : (names : List (List ℕ)) → items_have_float (items_of (map string names)) ≡ false
strings_no_float [] = refl
strings_no_float (n ∷ ns) = strings_no_float ns

layer_no_float : (g : Group) (n : ℕ) (rest : List Data) → items_have_float (items_of rest) ≡ false → items_have_float (items_of (as_layer g n ++ rest)) ≡ false
layer_no_float Placements n rest h = h
layer_no_float Texts n rest h = h
layer_no_float Rectangles n rest h = h
layer_no_float Polygons n rest h = h
layer_no_float Paths n rest h = h
layer_no_float Circles n rest h = h
layer_no_float (Layer layer datatype) n rest h = h
layer_no_float (TextLayer textlayer texttype) n rest h = h

textlayer_no_float : (g : Group) (n : ℕ) (rest : List Data) → items_have_float (items_of rest) ≡ false → items_have_float (items_of (as_textlayer g n ++ rest)) ≡ false
textlayer_no_float Placements n rest h = h
textlayer_no_float Texts n rest h = h
textlayer_no_float Rectangles n rest h = h
textlayer_no_float Polygons n rest h = h
textlayer_no_float Paths n rest h = h
textlayer_no_float Circles n rest h = h
textlayer_no_float (Layer layer datatype) n rest h = h
textlayer_no_float (TextLayer textlayer texttype) n rest h = h

layers_no_float : (groups : List (Group × ℕ)) → items_have_float (items_of (layers groups)) ≡ false
layers_no_float [] = refl
layers_no_float (p ∷ ps) = layer_no_float p.0 p.1 (layers ps) (layers_no_float ps)

textlayers_no_float : (groups : List (Group × ℕ)) → items_have_float (items_of (textlayers groups)) ≡ false
textlayers_no_float [] = refl
textlayers_no_float (p ∷ ps) = textlayer_no_float p.0 p.1 (textlayers ps) (textlayers_no_float ps)

pub no_float : (i : Info) → has_float (info_data i) ≡ false
no_float i =
    let facts = i.facts in
    neither _ _ (layers_no_float facts.groups.entries)
    (neither _ _ (textlayers_no_float facts.groups.entries) (neither _ _ (strings_no_float facts.undefined.items) (neither _ _ (strings_no_float facts.unplaced.items) refl)))

-- ---- names

ascii : (bytes : List ℕ) → IsOf IsNameByte bytes → IsAscii bytes
ascii [] h i = omega arith
ascii (b ∷ bs) h zero = omega (arith, h.0.1)
ascii (b ∷ bs) h (suc i) = ascii bs h.1 i

pub name_is_utf8 : (name : List ℕ) → IsName name → IsUtf8 name
name_is_utf8 name h = IsUtf8-from_ascii name (ascii name h.class)

-- ---- the number of a kind

pub by_stated : (groups : BTreeMap Group ℕ) (g : Group) → unwrap_or (get derived_cmp groups g) 0 ≡ number_of groups.entries g
by_stated groups g = ap (λ (R : Group → Group → Ordering). unwrap_or (lookup (is_at (R g)) groups.entries) 0) stated_cmp
