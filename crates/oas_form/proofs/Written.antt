-- What is written for a layout is its canonical form.
use Rattle.std.proofs.Common.{◌≡◌, ℕ, ◌≤◌, true, false, List, [], ◌∷◌, sym, subst, arith}
use Rattle.std.specs.List.{AllByRecursion}
use Rattle.std.specs.Map.{keys_of}
use Rattle.oas_num.specs.Style.{Shortest}
use Rattle.oas_num.specs.Texts.{IsName}
use Rattle.oas_elements.specs.declared.limits.Limits.{Limits}
use Rattle.oas_elements.specs.declared.profile.Profile.{Profile}
use Rattle.oas_elements.specs.declared.element.Element.{Element}
use Rattle.oas_elements.specs.Weight.{lacks_points}
use Rattle.oas_elements.specs.Grid.{fits_grid}
use Rattle.oas_elements.specs.Sound.{IsSound}
use Rattle.oas_elements.specs.Meaning.{Meaning, element_count, cells_weight}
use Rattle.oas_elements.specs.Contents.{Cell, Contents, IsCell, IsLayout, AllSound, expanded, meaning_of}
use Rattle.oas_file.specs.Stands.{records_mean}
use Rattle.oas_file.specs.Laws.FileLaws.{file_of}
use Rattle.oas_file.specs.Acceptance.{Means}
use Rattle.oas_form.specs.Records.{Cells, records_of}
use Rattle.oas_form.specs.RecordMeaning.{HavePoints, FitGrid}
use Rattle.oas_form.specs.Bytes.{canonical_bytes}
use Rattle.oas_form.specs.Spelling.{IsSpellable}
use Rattle.oas_form.specs.Canonical.{IsOrdered, CanonicalForm}
use Rattle.oas_form.specs.Layouts.{CanonicalBytes, FormWithin}
use Rattle.oas_form.proofs.AllowedLemmas.{canonical_allowed, ascending_whole}
use Rattle.oas_form.proofs.Forms.{plain_head, shaped}
use Rattle.oas_form.proofs.Held.{form_spellable, form_is_its_bytes}
use Rattle.oas_form.proofs.MeantLemmas.{canonical_means}
use Rattle.oas_form.proofs.OrderedLayouts.{all-items, layout_in_order}
use Rattle.oas_form.proofs.Spelling.{canonical_spelled}

-- ---- sound elements have their points, and are within the grid

points_of : (es : List Element) → AllByRecursion IsSound es → AllByRecursion (λ e. lacks_points e ≡ false) es
points_of [] h = tt
points_of (e ∷ es) h = (h.0.points, points_of es h.1)

grid_of : (es : List Element) → AllByRecursion IsSound es → AllByRecursion (λ e. fits_grid e ≡ true) es
grid_of [] h = tt
grid_of (e ∷ es) h = (h.0.inside, grid_of es h.1)

have_points : (cs : Cells) → AllByRecursion (λ c. AllByRecursion IsSound c.1) cs → HavePoints cs
have_points [] h = tt
have_points (c ∷ cs) h = (points_of c.1 h.0, have_points cs h.1)

fit_grid : (cs : Cells) → AllByRecursion (λ c. AllByRecursion IsSound c.1) cs → FitGrid cs
fit_grid [] h = tt
fit_grid (c ∷ cs) h = (grid_of c.1 h.0, fit_grid cs h.1)

-- ---- the canonical form

-- for what can be spelled, in order and within the limits
pub form_of : (limits : Limits) (profile : Profile) (m : Meaning) → IsSpellable m → IsOrdered profile m.cells → element_count m.cells ≤ limits.elements →
    cells_weight m.cells ≤ limits.weight → CanonicalForm limits profile (canonical_bytes m) × Means (canonical_bytes m) m
form_of limits profile m h o few light =
    let points = have_points m.cells h.sound in
    let file = canonical_spelled m h in
    let means : records_mean m.unit (records_of m.cells) ≡ m = canonical_means m.unit m.cells points in (
      record {
        head = plain_head m.unit;
        records = records_of m.cells;
        file = file;
        allowed = canonical_allowed limits m.cells points (fit_grid m.cells h.sound) few light;
        whole = ascending_whole limits m.cells points o.names light;
        ordered = subst (λ (n : Meaning). IsOrdered profile n.cells) (sym means) o;
      },
      record { head = plain_head m.unit; records = records_of m.cells; file = file_of Shortest (plain_head m.unit) (records_of m.cells) (canonical_bytes m) file; is = means },
    )

-- ---- a layout can be spelled

sound_keys : (es : List (Element × ℕ)) → AllSound es → AllByRecursion IsSound (keys_of es)
sound_keys [] h = tt
sound_keys (e ∷ es) h = (h.0, sound_keys es h.1)

cell_names : (profile : Profile) (cs : List Cell) → AllByRecursion (IsCell profile) cs → AllByRecursion (λ c. IsName c.0) (expanded cs)
cell_names profile [] h = tt
cell_names profile (c ∷ cs) h = (h.0.name, cell_names profile cs h.1)

cells_sound : (profile : Profile) (cs : List Cell) → AllByRecursion (IsCell profile) cs → AllByRecursion (λ c. AllByRecursion IsSound c.1) (expanded cs)
cells_sound profile [] h = tt
cells_sound profile (c ∷ cs) h = (all-items IsSound c.1 (sound_keys c.1 h.0.sound), cells_sound profile cs h.1)

pub layout_spellable : (l : Contents) → IsLayout l → IsSpellable (meaning_of l)
layout_spellable l h = record { unit = h.unit; names = cell_names l.profile l.cells h.cells; sound = cells_sound l.profile l.cells h.cells; light = omega (arith, h.light, h.limits.light) }

pub canonical_form : CanonicalBytes
canonical_form l h = form_of l.limits l.profile (meaning_of l) (layout_spellable l h) (layout_in_order l h) h.few h.light

pub form_within : FormWithin
form_within one other profile c m h k few light =
    let f = form_of other profile m (form_spellable one profile c m h k) (shaped one profile c m h k).ordered few light in
    subst (CanonicalForm other profile) (sym (form_is_its_bytes one profile c m h k)) f.0
