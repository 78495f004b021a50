-- The markers of what is held, a cell or an element at a time.
use Rattle.std.proofs.Common.{◌≡◌, ◌≢◌, ℕ, ◌<◌, List, [], ◌∷◌, ◌++◌, map, Bool, true, false, refl, sym, ap, ◌∙◌, subst}
use Rattle.std.specs.Prelude.{if◌then◌else◌, codes, decimal}
use Rattle.std.proofs.lemmas.Bool.{lt-ltb}
use Rattle.oas_num.specs.Ratio.{Ratio}
use Rattle.oas_elements.specs.declared.element.Element.{Element}
use Rattle.oas_difference.specs.Choice.{layer_of}
use Rattle.oas_difference.specs.Changed.{change_at}
use Rattle.oas_difference.specs.Entries.{kind_name}
use Rattle.oas_difference.specs.Held.{held_changed}
use Rattle.oas_difference.proofs.Steps.{one_change}
use Rattle.oas_markers.specs.declared.items.Way.{Way}
use Rattle.oas_markers.specs.declared.items.Way.TheVariants.{Removed, Added}
use Rattle.oas_markers.specs.Shapes.{shape, layer_value}
use Rattle.oas_markers.specs.Texts.{escaped}
use Rattle.oas_markers.specs.Markers.{way_name, way_file, category, item, cell_item, change_item, note}
use Rattle.oas_markers.specs.Held.{change_items}

pub first_item : (u v : Ratio) (name : List ℕ) (es fs es' fs' : List (Element × ℕ)) (e : Element) (n m : ℕ) → n ≢ m → held_changed es fs ≡ change_at e n m
    ++ held_changed es' fs' → change_items u v name es fs ≡ change_item u v name (e, (n, m)) ∷ change_items u v name es' fs'
first_item u v name es fs es' fs' e n m unlike h =
    ap (map (change_item u v name)) h ∙ ap (λ (cs : List (Element × (ℕ × ℕ))). map (change_item u v name) (cs ++ held_changed es' fs')) (one_change e n m unlike)

-- ---- what begins as its way says

abbrev pub item_front : Way → List ℕ
item_front way = codes "  <item><category>" ++ (way_name way ++ (46 ∷ []))

abbrev pub category_front : Way → List ℕ
category_front way = codes "  <category><name>" ++ (way_name way ++ (codes "</name><description>more often in " ++ (way_file way ++ codes ", by ")))

-- after a unit
abbrev pub kinds : List ℕ
kinds = codes " grid steps in a micron</description><categories><category><name>cell</name></category><category><name>placement</name></category><category><name>text</name></category><category><name>rectangle</name></category><category><name>polygon</name></category><category><name>path</name></category><category><name>circle</name></category></categories></category>\n"

category_by : (u : Ratio) (way : Way) → category u way ≡ category_front way ++ (decimal u.num ++ (47 ∷ (decimal u.den ++ kinds)))
category_by u Removed = refl
category_by u Added = refl

pub category_parts : (u : Ratio) (way : Way) {front : List ℕ} {n d : ℕ} → front ≡ category_front way → n ≡ u.num → d ≡ u.den →
    category u way ≡ front ++ (decimal n ++ (47 ∷ (decimal d ++ kinds)))
category_parts u way e p q = category_by u way ∙ (λ i. sym e i ++ (decimal (sym p i) ++ (47 ∷ (decimal (sym q i) ++ kinds))))

abbrev pub item_values : Ratio → Element → List ℕ
item_values u e = shape u e ++ (codes "</value>" ++ (layer_value (layer_of e) ++ codes "</values></item>\n"))

item_by : (u : Ratio) (way : Way) (name : List ℕ) (count : ℕ) (e : Element) → item u way name count e ≡ item_front way ++ (kind_name e ++ (codes "</category><cell>"
    ++ (escaped name ++ (codes "</cell><multiplicity>" ++ (decimal count ++ (codes "</multiplicity><values><value>" ++ item_values u e))))))
item_by u Removed name count e = refl
item_by u Added name count e = refl

pub item_parts : (u : Ratio) (way : Way) (name : List ℕ) (count : ℕ) (e : Element) {front kind bytes : List ℕ} → front ≡ item_front way → kind ≡ kind_name e → bytes ≡ name →
    item u way name count e ≡ front ++ (kind ++ (codes "</category><cell>" ++ (escaped bytes ++ (codes "</cell><multiplicity>" ++ (decimal count
    ++ (codes "</multiplicity><values><value>" ++ item_values u e))))))
item_parts u way name count e f k b = item_by u way name count e ∙ (λ i. sym f i ++ (sym k i ++ (codes "</category><cell>"
    ++ (escaped (sym b i) ++ (codes "</cell><multiplicity>" ++ (decimal count ++ (codes "</multiplicity><values><value>" ++ item_values u e)))))))

abbrev pub cell_item_foot : List ℕ
cell_item_foot = codes "</cell><multiplicity>1</multiplicity><values><value>text: 'cell'</value></values></item>\n"

cell_item_by : (way : Way) (name : List ℕ) → cell_item way name ≡ item_front way ++ (codes "cell</category><cell>" ++ (escaped name ++ cell_item_foot))
cell_item_by Removed name = refl
cell_item_by Added name = refl

pub cell_item_parts : (way : Way) (name : List ℕ) {front bytes : List ℕ} → front ≡ item_front way → bytes ≡ name →
    cell_item way name ≡ front ++ (codes "cell</category><cell>" ++ (escaped bytes ++ cell_item_foot))
cell_item_parts way name f b = cell_item_by way name ∙ (λ i. sym f i ++ (codes "cell</category><cell>" ++ (escaped (sym b i) ++ cell_item_foot)))

-- ---- what is said of how many there are

pub note_parts : (most count : ℕ) → most < count → note most count ≡ codes " (the first " ++ (decimal most ++ (codes " of " ++ (decimal count ++ codes " markers)")))
note_parts most count h = ap (λ b. if b then codes " (the first " ++ (decimal most ++ (codes " of " ++ (decimal count ++ codes " markers)"))) else []) (lt-ltb most count h)
