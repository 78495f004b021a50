-- Keys hold one list of elements at most, and runs one list of cells.
use Rattle.std.specs.Prelude.{◌≡◌, ℕ, List, [], ◌∷◌}
use Rattle.std.specs.Coded.{Coded-set, coded_ℕ, coded_bool, coded_list, coded×, ×_prop, Unit-prop, le_prop}
use mathlib.Core.HLevel.{is_prop→PathP}
use Rattle.std.proofs.Common.{refl, sym, ap, ◌∙◌}
use Rattle.std.proofs.lemmas.List.{append-nil}
use Rattle.oas_num.specs.Texts.{IsOf, IsName, IsLabel, IsNameByte, IsLabelByte}
use Rattle.oas_elements.specs.declared.element.Element.{Element}
use Rattle.oas_elements.specs.declared.element.Element.TheVariants.{Placement, Text, Rectangle, Polygon, Path, Circle}
use Rattle.oas_elements.specs.Sound.{Fits, IsSound}
use Rattle.oas_elements.specs.Contents.{Cell, AllSound}
use Rattle.oas_cells.specs.Keys.{key_of}
use Rattle.oas_cells.specs.KeyLaws.{one_key}
use Rattle.oas_runs.specs.Entries.{Entry}
use Rattle.oas_layout.specs.Keyed.{keyed, keyed_cells}
use Rattle.oas_layout.specs.Held.{HeldElement, element_held, HeldElements, elements_held, AreSoundCells, HeldCells, cells_held}

-- ---- that an element is sound can be so in one way only

names_prop : (bytes : List ℕ) → IsProp (IsOf IsNameByte bytes)
names_prop [] = Unit-prop
names_prop (b ∷ bs) = ×_prop (×_prop le_prop le_prop) (names_prop bs)

labels_prop : (bytes : List ℕ) → IsProp (IsOf IsLabelByte bytes)
labels_prop [] = Unit-prop
labels_prop (b ∷ bs) = ×_prop (×_prop le_prop le_prop) (labels_prop bs)

name_prop : (bytes : List ℕ) → IsProp (IsName bytes)
name_prop bytes a b = λ i. record { some = le_prop a.some b.some i; fits = le_prop a.fits b.fits i; class = names_prop bytes a.class b.class i }

label_prop : (bytes : List ℕ) → IsProp (IsLabel bytes)
label_prop bytes a b = λ i. record { fits = le_prop a.fits b.fits i; class = labels_prop bytes a.class b.class i }

fits_prop : (e : Element) → IsProp (Fits e)
fits_prop (Placement cell x y turns flip) = name_prop cell
fits_prop (Text string textlayer texttype x y) = λ a b i. record {
  string_fits = label_prop string a.string_fits b.string_fits i;
  textlayer_fits = le_prop a.textlayer_fits b.textlayer_fits i;
  texttype_fits = le_prop a.texttype_fits b.texttype_fits i;
}
fits_prop (Rectangle layer datatype width height x y) = λ a b i. record {
  layer_fits = le_prop a.layer_fits b.layer_fits i;
  datatype_fits = le_prop a.datatype_fits b.datatype_fits i;
  width_fits = le_prop a.width_fits b.width_fits i;
  height_fits = le_prop a.height_fits b.height_fits i;
}
fits_prop (Polygon layer datatype points) = λ a b i. record {
  layer_fits = le_prop a.layer_fits b.layer_fits i;
  datatype_fits = le_prop a.datatype_fits b.datatype_fits i;
}
fits_prop (Path layer datatype half_width start end points) = λ a b i. record {
  layer_fits = le_prop a.layer_fits b.layer_fits i;
  datatype_fits = le_prop a.datatype_fits b.datatype_fits i;
  half_width_fits = le_prop a.half_width_fits b.half_width_fits i;
}
fits_prop (Circle layer datatype radius x y) = λ a b i. record {
  layer_fits = le_prop a.layer_fits b.layer_fits i;
  datatype_fits = le_prop a.datatype_fits b.datatype_fits i;
  radius_fits = le_prop a.radius_fits b.radius_fits i;
}

sound_prop : (e : Element) → IsProp (IsSound e)
sound_prop e a b = λ i. record {
  points = Coded-set coded_bool _ _ a.points b.points i;
  inside = Coded-set coded_bool _ _ a.inside b.inside i;
  fits = fits_prop e a.fits b.fits i;
}

all_sound_prop : (es : List (Element × ℕ)) → IsProp (AllSound es)
all_sound_prop [] = Unit-prop
all_sound_prop (e ∷ es) = ×_prop (sound_prop e.0) (all_sound_prop es)

-- ---- equal keys are of equal elements

parts : {A : Type 0} (x y : A) (xs ys : List A) → x ∷ xs ≡ y ∷ ys → (x ≡ y) × (xs ≡ ys)
parts x y xs ys e =
    let a : x ≡ y = cc in
    let b : xs ≡ ys = cc in
    (a, b)

pub elements_same : (es fs : List (Element × ℕ)) → AllSound es → AllSound fs → keyed es ≡ keyed fs → es ≡ fs
elements_same [] [] p q same = refl
elements_same [] (f ∷ fs) p q same = let no : ⊥ = cc in absurd no
elements_same (e ∷ es) [] p q same = let no : ⊥ = cc in absurd no
elements_same (e ∷ es) (f ∷ fs) p q same =
    let both = parts (key_of e.0, e.1) (key_of f.0, f.1) (keyed es) (keyed fs) same in
    let keys : key_of e.0 ≡ key_of f.0 = ap (λ (u : Entry). u.0) both.0 in
    let element = (one_key e.0 f.0 p.0 q.0 [] [] (append-nil (key_of e.0) ∙ keys ∙ sym (append-nil (key_of f.0)))).0 in
    let times : e.1 ≡ f.1 = ap (λ (u : Entry). u.1) both.0 in
    let others = elements_same es fs p.1 q.1 both.1 in
    λ i. (element i, times i) ∷ others i

-- so that there is one such list at most
pub held_prop : (ks : List Entry) → IsProp (HeldElements ks)
held_prop ks a b = λ i. (
  same i,
  is_prop→PathP (λ j. AllSound (same j)) (λ j. all_sound_prop (same j)) a.1 b.1 i,
  is_prop→PathP (λ j. ks ≡ keyed (same j)) (λ j. Coded-set (coded_list (coded× (coded_list coded_ℕ) coded_ℕ)) ks (keyed (same j))) a.2 b.2 i,
)
  where
    same : a.0 ≡ b.0
    same = elements_same a.0 b.0 a.1 b.1 (sym a.2 ∙ b.2)

-- its elements are sound
pub held_sound : {ks : List Entry} (h : HeldElements ks) → AllSound (elements_held h)
unfolding elements_held
held_sound h = h.1

-- and the keys are theirs
pub held_keys : {ks : List Entry} (h : HeldElements ks) → ks ≡ keyed (elements_held h)
unfolding elements_held
held_keys h = h.2

-- and no others are
pub held_is : {ks : List Entry} (h : HeldElements ks) (es : List (Element × ℕ)) → AllSound es → ks ≡ keyed es → elements_held h ≡ es
held_is h es sound is = elements_same (elements_held h) es (held_sound h) sound (sym (held_keys h) ∙ is)

-- equal keys are of equal elements, and the other way round
pub held_same : {ks ls : List Entry} (h : HeldElements ks) (g : HeldElements ls) → ks ≡ ls → elements_held h ≡ elements_held g
held_same h g e = held_is h (elements_held g) (held_sound g) (e ∙ held_keys g)

-- ---- the same of one key

-- elements with equal keys are equal
element_same : (e f : Element) → IsSound e → IsSound f → key_of e ≡ key_of f → e ≡ f
element_same e f p q same = (one_key e f p q [] [] (append-nil (key_of e) ∙ same ∙ sym (append-nil (key_of f)))).0

pub held_key_prop : (key : List ℕ) → IsProp (HeldElement key)
held_key_prop key a b = λ i. (
  same i,
  is_prop→PathP (λ j. IsSound (same j)) (λ j. sound_prop (same j)) a.1 b.1 i,
  is_prop→PathP (λ j. key ≡ key_of (same j)) (λ j. Coded-set (coded_list coded_ℕ) key (key_of (same j))) a.2 b.2 i,
)
  where
    same : a.0 ≡ b.0
    same = element_same a.0 b.0 a.1 b.1 (sym a.2 ∙ b.2)

pub key_sound : {key : List ℕ} (h : HeldElement key) → IsSound (element_held h)
unfolding element_held
key_sound h = h.1

pub key_is : {key : List ℕ} (h : HeldElement key) → key ≡ key_of (element_held h)
unfolding element_held
key_is h = h.2

pub element_is : {key : List ℕ} (h : HeldElement key) (e : Element) → IsSound e → key ≡ key_of e → element_held h ≡ e
element_is h e sound is = element_same (element_held h) e (key_sound h) sound (sym (key_is h) ∙ is)

-- ---- the same of cells

cells_sound_prop : (cs : List Cell) → IsProp (AreSoundCells cs)
cells_sound_prop [] = Unit-prop
cells_sound_prop (c ∷ cs) = ×_prop (all_sound_prop c.1) (cells_sound_prop cs)

-- cells with equal runs and names are equal
pub cells_same : (cs ds : List Cell) → AreSoundCells cs → AreSoundCells ds → keyed_cells cs ≡ keyed_cells ds → cs ≡ ds
cells_same [] [] p q same = refl
cells_same [] (d ∷ ds) p q same = let no : ⊥ = cc in absurd no
cells_same (c ∷ cs) [] p q same = let no : ⊥ = cc in absurd no
cells_same (c ∷ cs) (d ∷ ds) p q same =
    let both = parts (c.0, keyed c.1) (d.0, keyed d.1) (keyed_cells cs) (keyed_cells ds) same in
    let name : c.0 ≡ d.0 = ap (λ (u : List ℕ × List Entry). u.0) both.0 in
    let elements = elements_same c.1 d.1 p.0 q.0 (ap (λ (u : List ℕ × List Entry). u.1) both.0) in
    let others = cells_same cs ds p.1 q.1 both.1 in
    λ i. (name i, elements i) ∷ others i

pub held_cells_prop : (rs : List (List ℕ × List Entry)) → IsProp (HeldCells rs)
held_cells_prop rs a b = λ i. (
  same i,
  is_prop→PathP (λ j. AreSoundCells (same j)) (λ j. cells_sound_prop (same j)) a.1 b.1 i,
  is_prop→PathP (λ j. rs ≡ keyed_cells (same j))
      (λ j. Coded-set (coded_list (coded× (coded_list coded_ℕ) (coded_list (coded× (coded_list coded_ℕ) coded_ℕ)))) rs (keyed_cells (same j))) a.2 b.2 i,
)
  where
    same : a.0 ≡ b.0
    same = cells_same a.0 b.0 a.1 b.1 (sym a.2 ∙ b.2)

pub cells_sound : {rs : List (List ℕ × List Entry)} (h : HeldCells rs) → AreSoundCells (cells_held h)
unfolding cells_held
cells_sound h = h.1

pub cells_keys : {rs : List (List ℕ × List Entry)} (h : HeldCells rs) → rs ≡ keyed_cells (cells_held h)
unfolding cells_held
cells_keys h = h.2

pub cells_are : {rs : List (List ℕ × List Entry)} (h : HeldCells rs) (cs : List Cell) → AreSoundCells cs → rs ≡ keyed_cells cs → cells_held h ≡ cs
cells_are h cs sound is = cells_same (cells_held h) cs (cells_sound h) sound (sym (cells_keys h) ∙ is)
