-- A canonical form is the canonical bytes of its meaning, and what it keeps of a file.
use Rattle.std.proofs.Common.{◌≡◌, ℕ, ◌≤◌, Bool, true, false, List, [], ◌∷◌, length, None, refl, ap, ◌∙◌, subst, arith}
use Rattle.std.specs.Prelude.{nat_lt}
use Rattle.std.specs.List.{AllByRecursion}
use Rattle.std.specs.Map.{keys_of}
use Rattle.std.proofs.lemmas.Bool.Decides.{nat_tests}
use Rattle.oas_num.specs.Style.{Any}
use Rattle.oas_num.specs.Ratio.{Ratio}
use Rattle.oas_num.specs.declared.refusals.Why.TheVariants.{UnknownReference, DuplicateCell, TooHeavy}
use Rattle.oas_record.specs.declared.heads.Head.{Head}
use Rattle.oas_record.specs.declared.records.Record.{Record}
use Rattle.oas_elements.specs.declared.limits.Limits.{Limits}
use Rattle.oas_elements.specs.declared.profile.Profile.{Profile}
use Rattle.oas_elements.specs.declared.element.Element.{Element}
use Rattle.oas_elements.specs.declared.element.Element.TheVariants.{Path}
use Rattle.oas_elements.specs.Weight.{lacks_points}
use Rattle.oas_elements.specs.Grid.{fits_grid}
use Rattle.oas_elements.specs.Sound.{Fits, IsSound, IsUnit}
use Rattle.oas_elements.specs.Meaning.{Meaning, SameLayout, cells_weight}
use Rattle.oas_file.specs.Reasons.{first_of}
use Rattle.oas_file.specs.Meaning.{has_twice}
use Rattle.oas_file.specs.Stands.{records_mean}
use Rattle.oas_file.specs.Laws.FileLaws.{one_reading, means_one}
use Rattle.oas_file.specs.Laws.FileLaws as file
use Rattle.oas_file.specs.Acceptance.{Accepted, IsWhole, Means}
use Rattle.oas_form.specs.Records.{Cells, records_of}
use Rattle.oas_form.specs.RecordMeaning.{HavePoints, FitGrid}
use Rattle.oas_form.specs.Bytes.{canonical_bytes}
use Rattle.oas_form.specs.Spelling.{IsSpellable, HasPoint}
use Rattle.oas_form.specs.Canonical.{CanonicalForm}
use Rattle.oas_form.specs.Laws.FormLaws.{form_is_accepted}
use Rattle.oas_form.specs.Layouts.{FormIsBytes, FormIsItsBytes, CanonicalWeight, FormLength}
use Rattle.oas_form.proofs.FieldsFit.{unit_fits}
use Rattle.oas_form.proofs.CellsFit.{cells_fit}
use Rattle.oas_form.proofs.Forms.{plain_head, shaped}
use Rattle.oas_form.proofs.InGrid.{allowed_fit}
use Rattle.oas_form.proofs.FileLengths.{canonical_length}
use Rattle.oas_form.proofs.MeantLemmas.{canonical_means}
use Rattle.oas_form.proofs.OrderedLayouts.{equal_in_order, layout_in_order}
use Rattle.oas_form.proofs.Sizes.{same_count, same_weight, least_weight}
use Rattle.oas_form.proofs.Spelling.{canonical_spelled}

-- ---- what END doesn't refuse

-- none of three reasons holds
none_holds : (a b c : Bool) → first_of ((a, UnknownReference) ∷ (b, DuplicateCell) ∷ (c, TooHeavy) ∷ []) ≡ None → (b ≡ false) × (c ≡ false)
none_holds true b c h = cc
none_holds false true c h = cc
none_holds false false true h = cc
none_holds false false false h = (refl, refl)

no_more : (most n : ℕ) → nat_lt most n ≡ false → n ≤ most
no_more most n h = grind (arith, nat_tests)

-- no name occurs twice
pub whole_once : (limits : Limits) (unit : Ratio) (rs : List Record) → IsWhole limits rs → has_twice (keys_of (records_mean unit rs).cells) ≡ false
whole_once limits unit rs h = (none_holds _ _ _ h).0

-- and all is light enough
pub whole_light : (limits : Limits) (unit : Ratio) (rs : List Record) → IsWhole limits rs → cells_weight (records_mean unit rs).cells ≤ limits.weight
whole_light limits unit rs h = no_more limits.weight (cells_weight (records_mean unit rs).cells) (none_holds _ _ _ h).1

-- ---- the meaning of a canonical form can be spelled

sound_elements : (es : List Element) → AllByRecursion (λ e. lacks_points e ≡ false) es → AllByRecursion (λ e. fits_grid e ≡ true) es → AllByRecursion Fits es → AllByRecursion IsSound es
sound_elements [] p g f = tt
sound_elements (e ∷ es) p g f = (record { points = p.0; inside = g.0; fits = f.0 }, sound_elements es p.1 g.1 f.1)

sound_cells : (cs : Cells) → HavePoints cs → FitGrid cs → AllByRecursion (λ c. AllByRecursion Fits c.1) cs → AllByRecursion (λ c. AllByRecursion IsSound c.1) cs
sound_cells [] p g f = tt
sound_cells (c ∷ cs) p g f = (sound_elements c.1 p.0 g.0 f.0, sound_cells cs p.1 g.1 f.1)

pub form_spellable : (limits : Limits) (profile : Profile) (c : List ℕ) (m : Meaning) → CanonicalForm limits profile c → Means c m → IsSpellable m
form_spellable limits profile c m h k =
    let f = shaped limits profile c m h k in
    let front = f.file.spelled.first in
    let start = front.spelled.second in
    let body = f.file.spelled.second in
    let fields = cells_fit m.cells body.front body.first in
    let weight = whole_light limits m.unit (records_of m.cells) f.whole in
    let same = ap (λ (n : Meaning). cells_weight n.cells) (canonical_means m.unit m.cells f.points) in
    record {
      unit = subst (λ (head : Head). IsUnit head.unit) (start.is ∙ front.is) (unit_fits start.from.1.1.0 _ start.spelled.second.second.first);
      names = fields.0;
      sound = sound_cells m.cells f.points (allowed_fit limits m.cells f.points f.allowed) fields.1;
      light = omega (arith, weight, same, limits.light);
    }

pub form_is_its_bytes : FormIsItsBytes
form_is_its_bytes limits profile c m h k =
    file.one_spelling (plain_head m.unit) (records_of m.cells) c (canonical_bytes m) (shaped limits profile c m h k).file (canonical_spelled m (form_spellable limits profile c m h k))

pub form_is_bytes : FormIsBytes
form_is_bytes limits c m l h k held s =
    form_is_its_bytes limits l.profile c m h k ∙ ap canonical_bytes (equal_in_order l.profile m _ (shaped limits l.profile c m h k).ordered (layout_in_order l held) s)

-- ---- what it keeps

-- in an accepted file no name occurs twice
pub accepted_once : (limits : Limits) (b : List ℕ) (m : Meaning) → Accepted limits b → Means b m → has_twice (keys_of m.cells) ≡ false
accepted_once limits b m h k =
    let both = one_reading Any Any h.head k.head h.records k.records b h.file k.file in
    let mean : records_mean h.head.unit h.records ≡ m = ap (λ (p : Head × List Record). records_mean p.0.unit p.1) (λ i. (both.0 i, both.1 i)) ∙ k.is in
    subst (λ (n : Meaning). has_twice (keys_of n.cells) ≡ false) mean (whole_once limits h.head.unit h.records h.whole)

pub canonical_weight : CanonicalWeight
canonical_weight limits profile b c m n h k p q =
    let same : SameLayout profile m n = subst (λ (l : Meaning). SameLayout profile l n) (means_one b k.source m k.means p)
    (subst (SameLayout profile k.source) (means_one c k.target n k.becomes q) k.same) in
    let once = accepted_once limits b m h p in
    let still = accepted_once limits c n (form_is_accepted limits profile c k.form) q in (
      same_count profile m n once still same,
      least_weight profile m n once (shaped limits profile c n k.form q).ordered same,
      λ one. same_weight m n once still
          (subst (λ (o : Profile). SameLayout o m n) one same),
    )

-- a path has a point
element_has_point : (e : Element) → lacks_points e ≡ false → HasPoint e
element_has_point (Path layer datatype half_width start end points) h = let some : 1 ≤ length points = no_more (length points) 1 h in omega (arith, some)
element_has_point e h = tt

have_point : (es : List Element) → AllByRecursion (λ e. lacks_points e ≡ false) es → AllByRecursion HasPoint es
have_point [] h = tt
have_point (e ∷ es) h = (element_has_point e h.0, have_point es h.1)

cells_have_point : (cs : Cells) → HavePoints cs → AllByRecursion (λ c. AllByRecursion HasPoint c.1) cs
cells_have_point [] h = tt
cells_have_point (c ∷ cs) h = (have_point c.1 h.0, cells_have_point cs h.1)

pub form_length : FormLength
form_length limits profile b c m h k p =
    let e : c ≡ canonical_bytes k.target = form_is_its_bytes limits profile c k.target k.form k.becomes in
    let w = canonical_weight limits profile b c m k.target h k p k.becomes in
    let points = (shaped limits profile c k.target k.form k.becomes).points in
    omega (arith, ap length e, canonical_length k.target (cells_have_point k.target.cells points), w.1)
