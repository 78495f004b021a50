-- The groups in which the elements of a layout are counted.
use Rattle.std.specs.Prelude.{◌≡◌, ℕ, ◌+◌, List, ◌∷◌, Option, None, Some, option_to_list, sum_by, cond, unwrap_or}
use Rattle.std.specs.List.Sorted.{IsStrictlySortedBy}
use Rattle.std.specs.Ordering.{nat_cmp, is_eq}
use Rattle.std.specs.declared.cmp.Ordering.{Ordering}
use Rattle.std.specs.Map.{lookup, keys_of}
use Rattle.std.specs.BTreeMap.{is_at}
use Rattle.oas_elements.specs.declared.element.Element.{Element}
use Rattle.oas_elements.specs.declared.element.Element.TheVariants as element
use Rattle.oas_elements.specs.Element.{◌then◌}
use Rattle.oas_elements.specs.Meaning.{Meaning, cells_sum}
use Rattle.oas_info.specs.declared.group.Group.{Group}
use Rattle.oas_info.specs.declared.group.Group.TheVariants.{Placements, Texts, Rectangles, Polygons, Paths, Circles, Layer, TextLayer}

-- the rank of a group
abbrev pub rank : Group → ℕ
rank Placements = 0
rank Texts = 1
rank Rectangles = 2
rank Polygons = 3
rank Paths = 4
rank Circles = 5
rank (Layer layer datatype) = 6
rank (TextLayer textlayer texttype) = 7

-- the kinds first, then the layers and the text layers, each by its two numbers
abbrev pub group_cmp : Group → Group → Ordering
group_cmp (Layer layer datatype) (Layer layer' datatype') = nat_cmp layer layer' then nat_cmp datatype datatype'
group_cmp (TextLayer textlayer texttype) (TextLayer textlayer' texttype') = nat_cmp textlayer textlayer' then nat_cmp texttype texttype'
group_cmp a b = nat_cmp (rank a) (rank b)

-- ---- the groups of an element

abbrev pub kind_of : Element → Group
kind_of (element.Placement cell x y turns flip) = Placements
kind_of (element.Text string textlayer texttype x y) = Texts
kind_of (element.Rectangle layer datatype width height x y) = Rectangles
kind_of (element.Polygon layer datatype points) = Polygons
kind_of (element.Path layer datatype half_width start end points) = Paths
kind_of (element.Circle layer datatype radius x y) = Circles

-- the layer and datatype that it has, or the textlayer and texttype of a text
abbrev pub layer_of : Element → Option Group
layer_of (element.Placement cell x y turns flip) = None
layer_of (element.Text string textlayer texttype x y) = Some (TextLayer textlayer texttype)
layer_of (element.Rectangle layer datatype width height x y) = Some (Layer layer datatype)
layer_of (element.Polygon layer datatype points) = Some (Layer layer datatype)
layer_of (element.Path layer datatype half_width start end points) = Some (Layer layer datatype)
layer_of (element.Circle layer datatype radius x y) = Some (Layer layer datatype)

-- its kind, and the layer if it has one
abbrev pub groups_of : Element → List Group
groups_of e = kind_of e ∷ option_to_list (layer_of e)

-- ---- how many elements are in a group

-- n if the group h is g, else 0
abbrev pub if_same : ℕ → Group → Group → ℕ
if_same n g h = cond (is_eq (group_cmp h g)) n 0

-- n if the element is in the group, else 0
abbrev pub if_in : ℕ → Group → Element → ℕ
if_in n g e = sum_by (if_same n g) (groups_of e)

-- how many of the elements are in the group
abbrev pub count_of : Group → List Element → ℕ
count_of g es = sum_by (if_in 1 g) es

-- how many elements of the layout are in the group
abbrev pub group_count : Group → Meaning → ℕ
group_count g m = cells_sum (λ c. count_of g c.1) m.cells

-- ---- groups with their numbers

-- the number beside a group, or 0
abbrev pub number_of : List (Group × ℕ) → Group → ℕ
number_of ns g = unwrap_or (lookup (is_at (group_cmp g)) ns) 0

-- they ascend, and none has the number 0
pub record IsTally (ns : List (Group × ℕ)) : Type 0 where
  pub ascending : IsStrictlySortedBy group_cmp (keys_of ns)
  pub positive : (g : Group) → lookup (is_at (group_cmp g)) ns ≡ Some 0 → ⊥

-- each group's number has grown by what f says for it
abbrev pub Grows : (Group → ℕ) → List (Group × ℕ) → List (Group × ℕ) → Type 0
Grows f old new = (g : Group) → number_of new g ≡ number_of old g + f g

-- ascending, each group that an element of the layout is in, with the number of its elements
pub record AreCounts (m : Meaning) (ns : List (Group × ℕ)) : Type 0 where
  pub tally : IsTally ns
  pub counts : (g : Group) → number_of ns g ≡ group_count g m
