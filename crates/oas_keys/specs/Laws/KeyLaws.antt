-- Elements are ordered as their keys are.
use Rattle.std.proofs.Common.{◌≡◌, ℕ, ◌<◌, ◌^◌, ℤ, Bool, true, false, true≢false, List, [], ◌∷◌, ◌++◌, refl, sym, ap, ◌∙◌, arith}
use Rattle.std.specs.Prelude.{◌&&◌}
use Rattle.std.specs.Ordering.{nat_cmp, int_cmp, bool_cmp, ordering_then}
use Rattle.std.specs.declared.cmp.Ordering.{Ordering}
use Rattle.std.specs.declared.cmp.Ordering.TheVariants.{Less, Equal, Greater}
use Rattle.std.specs.Cmp.Lexicographic.{slice_cmp}
use Rattle.std.specs.List.{list_all}
use Rattle.std.proofs.lemmas.List.{append-nil}
use Rattle.std.proofs.lemmas.Cmp.{tied_itself, nat_list_cmp_total}
use Rattle.std.proofs.lemmas.Map.Lookups.{exact_bytes}
use Rattle.oas_num.specs.Texts.{IsOf, IsNameByte, IsLabelByte}
use Rattle.oas_ring.specs.declared.point.Point.{Point}
use Rattle.oas_ring.specs.Points.{origin, list_cmp}
use Rattle.oas_elements.specs.declared.element.Turns.{Turns}
use Rattle.oas_elements.specs.declared.element.Element.{Element}
use Rattle.oas_elements.specs.declared.element.Element.TheVariants.{Placement, Text, Rectangle, Polygon, Path, Circle}
use Rattle.oas_elements.specs.Element.{element_cmp, turn_count}
use Rattle.oas_elements.specs.Grid.{is_coordinate, is_grid_point, reaches}
use Rattle.oas_elements.specs.Sound.{IsSound}
use Rattle.oas_elements.specs.Laws.ElementLaws.{exact_elements}
use Rattle.oas_keys.specs.Numbers.{signed_key, unsigned_key}
use Rattle.oas_keys.specs.Keys.{key_of, text_key, points_key, turned_key}
use Rattle.oas_keys.specs.Laws.NumberLaws.{signed_order, unsigned_order}
use Rattle.oas_keys.specs.Laws.FieldLaws.{Ordered, ◌▸◌, NoZero, text_order, turned_order, AreWithin, coordinate_fits, points_order}

-- none of a name's bytes is 0
pub name_bytes : (bytes : List ℕ) → IsOf IsNameByte bytes → NoZero bytes
name_bytes [] h = tt
name_bytes (b ∷ bs) h = (omega (arith, h.0.0), name_bytes bs h.1)

pub label_bytes : (bytes : List ℕ) → IsOf IsLabelByte bytes → NoZero bytes
label_bytes [] h = tt
label_bytes (b ∷ bs) h = (omega (arith, h.0.0), label_bytes bs h.1)

-- points that pass the test are within the grid
pub all_within : (ps : List Point) → list_all is_grid_point ps ≡ true → AreWithin ps
all_within [] h = tt
all_within (p ∷ ps) h = let k : (is_grid_point p ≡ true) × (list_all is_grid_point ps ≡ true) = grind arith in (k.0, all_within ps k.1)

-- both of two tests hold
pub both : (a b : Bool) → (a && b) ≡ true → (a ≡ true) × (b ≡ true)
both true true h = (refl, refl)
both true false h = (refl, h)
both false b h = (h, absurd (true≢false (sym h)))

number : (n m : ℕ) → n < 2 ^ 64 → m < 2 ^ 64 → Ordered (nat_cmp n m) (unsigned_key n) (unsigned_key m)
number n m p q = record { at = unsigned_order n m p q }

coordinate : (x y : ℤ) → is_coordinate x ≡ true → is_coordinate y ≡ true → Ordered (int_cmp x y) (signed_key x) (signed_key y)
coordinate x y p q = record { at = signed_order x y (coordinate_fits x p) (coordinate_fits y q) }

text : (a b : List ℕ) → NoZero a → NoZero b → Ordered (slice_cmp nat_cmp a b) (text_key a) (text_key b)
text a b p q = record { at = text_order a b p q }

turned : (s t : Turns) (f g : Bool) → Ordered (ordering_then (nat_cmp (turn_count s) (turn_count t)) (bool_cmp f g)) (turned_key s f) (turned_key t g)
turned s t f g = record { at = turned_order s t f g }

path : (ps qs : List Point) → list_all is_grid_point ps ≡ true → list_all is_grid_point qs ≡ true → Ordered (list_cmp ps qs) (points_key origin ps) (points_key origin qs)
path ps qs p q = record { at = points_order origin ps qs refl (all_within ps p) (all_within qs q) }

-- two sound elements are ordered as their keys are, whatever follows these
pub keys_order : (e f : Element) → IsSound e → IsSound f → Ordered (element_cmp e f) (key_of e) (key_of f)
keys_order (Placement cell x y turns flip) (Placement cell' x' y' turns' flip') p q =
    let a = both (is_coordinate x) (is_coordinate y) p.inside in
    let b = both (is_coordinate x') (is_coordinate y') q.inside in
    let h = text cell cell' (name_bytes cell p.fits.class) (name_bytes cell' q.fits.class)
    ▸ coordinate x x' a.0 b.0 ▸ coordinate y y' a.1 b.1 ▸ turned turns turns' flip flip' in
    record { at = h.at }
keys_order (Text string textlayer texttype x y) (Text string' textlayer' texttype' x' y') p q =
    let a = both (is_coordinate x) (is_coordinate y) p.inside in
    let b = both (is_coordinate x') (is_coordinate y') q.inside in
    let h = text string string' (label_bytes string p.fits.string_fits.class) (label_bytes string' q.fits.string_fits.class)
    ▸ number textlayer textlayer' p.fits.textlayer_fits q.fits.textlayer_fits ▸ number texttype texttype' p.fits.texttype_fits q.fits.texttype_fits
    ▸ coordinate x x' a.0 b.0 ▸ coordinate y y' a.1 b.1 in
    record { at = h.at }
keys_order (Rectangle layer datatype width height x y) (Rectangle layer' datatype' width' height' x' y') p q =
    let a = both (reaches x width) (reaches y height) p.inside in
    let b = both (reaches x' width') (reaches y' height') q.inside in
    let ax = both (is_coordinate x) _ a.0 in
    let ay = both (is_coordinate y) _ a.1 in
    let bx = both (is_coordinate x') _ b.0 in
    let by = both (is_coordinate y') _ b.1 in
    let h = number layer layer' p.fits.layer_fits q.fits.layer_fits ▸ number datatype datatype' p.fits.datatype_fits q.fits.datatype_fits
    ▸ number width width' p.fits.width_fits q.fits.width_fits ▸ number height height' p.fits.height_fits q.fits.height_fits
    ▸ coordinate x x' ax.0 bx.0 ▸ coordinate y y' ay.0 by.0 in
    record { at = h.at }
keys_order (Polygon layer datatype points) (Polygon layer' datatype' points') p q =
    let h = number layer layer' p.fits.layer_fits q.fits.layer_fits ▸ number datatype datatype' p.fits.datatype_fits q.fits.datatype_fits
    ▸ path points points' p.inside q.inside in
    record { at = h.at }
keys_order (Path layer datatype half_width start end points) (Path layer' datatype' half_width' start' end' points') p q =
    let a = both _ (is_coordinate start && (is_coordinate end && list_all is_grid_point points)) p.inside in
    let b = both _ (is_coordinate start' && (is_coordinate end' && list_all is_grid_point points')) q.inside in
    let c = both (is_coordinate start) _ a.1 in
    let d = both (is_coordinate start') _ b.1 in
    let e = both (is_coordinate end) (list_all is_grid_point points) c.1 in
    let f = both (is_coordinate end') (list_all is_grid_point points') d.1 in
    let h = number layer layer' p.fits.layer_fits q.fits.layer_fits ▸ number datatype datatype' p.fits.datatype_fits q.fits.datatype_fits
    ▸ number half_width half_width' p.fits.half_width_fits q.fits.half_width_fits
    ▸ coordinate start start' c.0 d.0 ▸ coordinate end end' e.0 f.0 ▸ path points points' e.1 f.1 in
    record { at = h.at }
keys_order (Circle layer datatype radius x y) (Circle layer' datatype' radius' x' y') p q =
    let a = both _ (is_coordinate x && is_coordinate y) p.inside in
    let b = both _ (is_coordinate x' && is_coordinate y') q.inside in
    let c = both (is_coordinate x) (is_coordinate y) a.1 in
    let d = both (is_coordinate x') (is_coordinate y') b.1 in
    let h = number layer layer' p.fits.layer_fits q.fits.layer_fits ▸ number datatype datatype' p.fits.datatype_fits q.fits.datatype_fits
    ▸ number radius radius' p.fits.radius_fits q.fits.radius_fits ▸ coordinate x x' c.0 d.0 ▸ coordinate y y' c.1 d.1 in
    record { at = h.at }
keys_order e f p q = record { at = λ us vs. refl }

-- the order of keys alone
pub key_order : (e f : Element) → IsSound e → IsSound f → slice_cmp nat_cmp (key_of e) (key_of f) ≡ element_cmp e f
key_order e f p q =
    let h = keys_order e f p q in
    ap (λ (a : List ℕ). slice_cmp nat_cmp a (key_of f)) (sym (append-nil (key_of e))) ∙ ap (λ (b : List ℕ). slice_cmp nat_cmp (key_of e ++ []) b) (sym (append-nil (key_of f)))
    ∙ h.at [] [] ∙ then_equal (element_cmp e f)
  where
    then_equal : (o : Ordering) → ordering_then o Equal ≡ o
    then_equal Less = refl
    then_equal Equal = refl
    then_equal Greater = refl

-- key and rest spell one element and one rest
pub one_key : (e f : Element) → IsSound e → IsSound f → (us vs : List ℕ) → key_of e ++ us ≡ key_of f ++ vs → (e ≡ f) × (us ≡ vs)
one_key e f p q us vs same =
    let h = keys_order e f p q in
    let tie : slice_cmp nat_cmp (key_of e ++ us) (key_of f ++ vs) ≡ Equal = ap (λ (b : List ℕ). slice_cmp nat_cmp (key_of e ++ us) b) (sym same) ∙ tied_itself nat_list_cmp_total (key_of e ++ us) in
    let parts = both_equal (element_cmp e f) (slice_cmp nat_cmp us vs) (sym (h.at us vs) ∙ tie) in
    (exact_elements e f parts.0, exact_bytes us vs parts.1)
  where
    both_equal : (r o : Ordering) → ordering_then r o ≡ Equal → (r ≡ Equal) × (o ≡ Equal)
    both_equal Less o h = (h, cc)
    both_equal Equal o h = (refl, h)
    both_equal Greater o h = (h, cc)
