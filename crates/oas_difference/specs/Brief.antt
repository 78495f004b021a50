-- The difference of two layouts in brief: for each cell that differs how many elements only one of them has.
use Rattle.std.specs.Prelude.{ℕ, ◌-◌, ◌==◌, ◌&&◌, Bool, true, false, List, [], ◌++◌, flat_map, sum_by, Option, None, Some, is_some, unwrap_or, if◌then◌else◌}
use Rattle.std.specs.Borrow.{Bor}
use Rattle.std.specs.Ordering.{nat_cmp}
use Rattle.std.specs.Cmp.Lexicographic.{slice_cmp}
use Rattle.std.specs.Map.{keys_of}
use Rattle.oas_elements.specs.declared.profile.Profile.{Profile}
use Rattle.oas_elements.specs.declared.element.Element.{Element}
use Rattle.oas_elements.specs.Meaning.{Meaning, elements_of}
use Rattle.oas_difference.specs.Ascending.{ascending}
use Rattle.oas_difference.specs.Changed.{changed}
use Rattle.oas_diff_options.specs.Choice.{or_empty}
use Rattle.oas_difference.specs.Difference.{unit_changes}
use Rattle.oas_diff_text.specs.Entries.{brief_entry}
use Rattle.oas_diff_options.specs.declared.choice.ChosenLayer.{ChosenLayer}
use Rattle.oas_diff_options.specs.declared.format.Syntax.{Syntax}

-- ---- the elements of a cell

-- how many elements only the first list has
abbrev pub only_first : List (Element × (ℕ × ℕ)) → ℕ
only_first cs = sum_by (λ c. c.1.0 - c.1.1) cs

-- how many only the second has
abbrev pub only_second : List (Element × (ℕ × ℕ)) → ℕ
only_second cs = sum_by (λ c. c.1.1 - c.1.0) cs

-- ---- the cells

-- - for a cell that is only there before, + for one that is only there after, @ for one in which something has changed
abbrev pub brief_sign : Bool → Bool → ℕ → ℕ → Option ℕ
brief_sign true true n m = if (n == 0) && (m == 0) then None else Some 64
brief_sign true false n m = Some 45
brief_sign false true n m = Some 43
brief_sign false false n m = None

abbrev pub signed_brief : Syntax → Option ℕ → List ℕ → ℕ → ℕ → List ℕ
signed_brief syntax None name n m = []
signed_brief syntax (Some sign) name n m = brief_entry syntax sign name n m

abbrev pub brief_of : Syntax → Bool → Bool → List ℕ → ℕ → ℕ → List ℕ
brief_of syntax before after name n m = signed_brief syntax (brief_sign before after n m) name n m

-- the entry of a cell; its elements are given where it is there
abbrev pub cell_brief : Syntax → Profile → List ℕ → Option (List Element) → Option (List Element) → List ℕ
cell_brief syntax profile name before after =
    brief_of syntax (is_some before) (is_some after) name
    (only_first (changed profile (unwrap_or before []) (unwrap_or after [])))
    (only_second (changed profile (unwrap_or before []) (unwrap_or after [])))

-- ---- the layouts

-- the changes of the unit, and then the entry of each cell that differs
abbrev pub brief : Option (Bor (List ChosenLayer)) → Syntax → Profile → Meaning → Meaning → List ℕ
brief layers syntax profile a b =
    unit_changes syntax a.unit b.unit
    ++ flat_map (λ name. cell_brief syntax profile name (or_empty layers (elements_of name a.cells)) (or_empty layers (elements_of name b.cells)))
    (ascending (slice_cmp nat_cmp) (keys_of a.cells ++ keys_of b.cells))
