-- the copies of a record, one after another
use Rattle.std.proofs.Common.{◌≡◌, ℕ, zero, suc, ◌+◌, ◌<◌, ◌≤◌, List, ◌∷◌, ◌++◌, append_assoc, map, refl, sym, ap, ◌∙◌, subst, arith, Bool, true, false, []}
use Rattle.std.proofs.lemmas.List.FromFn.{length-map-range_with_len, get_or-map-range_with_len, map-range_with_len_more}
use Rattle.std.proofs.lemmas.List.Folds.{list_all_at}
use Rattle.std.specs.Prelude.{Option, None, Some, cond, not, is_none, ◌&&◌}
use Rattle.std.specs.Option.{option_or, option_to_list}
use Rattle.std.specs.List.{list_all, range_with_len}
use Rattle.oas_num.specs.declared.refusals.Why.{Why}
use Rattle.oas_num.specs.declared.refusals.Why.TheVariants.{CoordinateRange, ModalUndefined}
use Rattle.oas_num.specs.declared.deltas.GDelta.{GDelta}
use Rattle.oas_shape.specs.Steps.{still}
use Rattle.oas_shape.specs.declared.repetitions.Repetition.{Repetition}
use Rattle.oas_shape.specs.Places.{ArePlaces}
use Rattle.oas_shape.specs.Laws.PlaceLaws.{apart, places}
use Rattle.oas_record.specs.declared.records.Record.{Record}
use Rattle.oas_elements.specs.declared.limits.Limits.{Limits}
use Rattle.oas_drawing.specs.declared.drawn.Drawn.{Drawn}
use Rattle.oas_drawing.specs.declared.kinds.Kind.{Kind}
use Rattle.oas_drawing.specs.Modal.{ModalState}
use Rattle.oas_drawing.specs.Drawn.{drawn_fits}
use Rattle.oas_drawing.specs.Drawing.{kind_of, repeats, drawn_by, offset_if}
use Rattle.oas_drawing.specs.Drawing.{number_if, places_if, drawn_at, copies_at, first_offsets}
use Rattle.oas_drawing.proofs.AllKinds.{drawn_defined}
use Rattle.oas_drawing.specs.Reasons.{first_of, fits_if, fault_of, kind_reason, all_fit, reason_if, draw_reason}

-- the first condition doesn't hold
first_false : (b : Bool) (w : Why) (o : Option Why) → cond b (Some w) o ≡ None → b ≡ false
first_false false w o h = refl
first_false true w o h = cc

unfit : (b : Bool) (why : Why) → first_of ((not b, CoordinateRange) ∷ []) ≡ Some why → (Some CoordinateRange ≡ Some why) × (b ≡ false)
unfit true why h = cc
unfit false why h = (h, refl)

-- a fault of an element that is defined
faulty : (o : Option Drawn) (why : Why) → is_none o ≡ false → fault_of o ≡ Some why → (Some CoordinateRange ≡ Some why) × (fits_if o ≡ false)
faulty None why n h = cc
faulty (Some d) why n h = unfit (drawn_fits d) why h

fit : (b : Bool) → first_of ((not b, CoordinateRange) ∷ []) ≡ None → b ≡ true
fit true h = refl
fit false h = cc

faultless : (o : Option Drawn) → fault_of o ≡ None → fits_if o ≡ true
faultless None h = refl
faultless (Some d) h = fit (drawn_fits d) h

both : (a b : Bool) → a ≡ true → b ≡ true → (a && b) ≡ true
both true b e f = f
both false b e f = cc

all_pass : (p : GDelta → Bool) (f : ℕ → GDelta) (n a : ℕ) → ((i : ℕ) → a ≤ i → i < a + n → p (f i) ≡ true) → list_all p (map f (range_with_len a n)) ≡ true
all_pass p f zero a h = refl
all_pass p f (suc n) a h = both (p (f a)) _ (h a (omega arith) (omega arith)) (all_pass p f n (a + 1) (λ i low high. h i (omega arith) (omega arith)))

one_fails : (p : GDelta → Bool) (f : ℕ → GDelta) (n i : ℕ) → i < n → p (f i) ≡ false → list_all p (map f (range_with_len 0 n)) ≡ false
one_fails p f n i below fails =
    list_all_at p (map f (range_with_len 0 n)) i still (subst (λ (k : ℕ). i < k) (sym (length-map-range_with_len f 0 n)) below)
    (ap p (get_or-map-range_with_len f 0 n i i still below (omega arith)) ∙ fails)

pub last_reason : (before : Option Why) (b : Bool) → before ≡ None → option_or before (first_of ((not b, CoordinateRange) ∷ [])) ≡ first_of ((not b, CoordinateRange) ∷ [])
last_reason None b e = refl
last_reason (Some w) b e = cc

at_kind : (limits : Limits) (count weight : ℕ) (m : ModalState) (r : Record) (kind : Kind) → kind_of r ≡ Some kind
    → draw_reason limits count weight m r ≡ option_or (kind_reason limits count weight m kind (repeats r))
    (first_of ((not (all_fit m kind (repeats r)), CoordinateRange) ∷ []))
at_kind limits count weight m r kind e = ap (λ (k : Option Kind). reason_if limits count weight m k (repeats r)) e

pub refused_before : (limits : Limits) (count weight : ℕ) (m : ModalState) (r : Record) (kind : Kind) (why : Why) → kind_of r ≡ Some kind
    → kind_reason limits count weight m kind (repeats r) ≡ Some why → draw_reason limits count weight m r ≡ Some why
refused_before limits count weight m r kind why e h =
    at_kind limits count weight m r kind e ∙ ap (λ (o : Option Why). option_or o (first_of ((not (all_fit m kind (repeats r)), CoordinateRange) ∷ []))) h

pub refused_at : (limits : Limits) (count weight : ℕ) (m : ModalState) (r : Record) (kind : Kind) (i : ℕ) (why : Why) → kind_of r ≡ Some kind
    → kind_reason limits count weight m kind (repeats r) ≡ None → i < number_if (repeats r) m.repetition
    → fault_of (drawn_by m kind (offset_if (repeats r) m.repetition i)) ≡ Some why → draw_reason limits count weight m r ≡ Some why
refused_at limits count weight m r kind i why e none below h =
    let there : is_none (drawn_by m kind (offset_if (repeats r) m.repetition i)) ≡ false =
    drawn_defined m kind (offset_if (repeats r) m.repetition i) still ∙ first_false (is_none (drawn_by m kind still)) ModalUndefined _ none in
    let fault : (Some CoordinateRange ≡ Some why) × (fits_if (drawn_by m kind (offset_if (repeats r) m.repetition i)) ≡ false) =
    faulty (drawn_by m kind (offset_if (repeats r) m.repetition i)) why there h in
    let fails : all_fit m kind (repeats r) ≡ false = one_fails (λ d. fits_if (drawn_by m kind d)) (offset_if (repeats r) m.repetition) (number_if (repeats r) m.repetition) i below fault.1 in
    at_kind limits count weight m r kind e ∙ (last_reason _ (all_fit m kind (repeats r)) none ∙ (ap (λ (b : Bool). first_of ((not b, CoordinateRange) ∷ [])) fails ∙ fault.0))

pub allowed_all : (limits : Limits) (count weight : ℕ) (m : ModalState) (r : Record) (kind : Kind) → kind_of r ≡ Some kind
    → kind_reason limits count weight m kind (repeats r) ≡ None
    → ((i : ℕ) → i < number_if (repeats r) m.repetition → fault_of (drawn_by m kind (offset_if (repeats r) m.repetition i)) ≡ None)
    → draw_reason limits count weight m r ≡ None
allowed_all limits count weight m r kind e none h =
    let fits : all_fit m kind (repeats r) ≡ true = all_pass (λ d. fits_if (drawn_by m kind d)) (offset_if (repeats r) m.repetition)
    (number_if (repeats r) m.repetition) 0 (λ i low high. faultless (drawn_by m kind (offset_if (repeats r) m.repetition i))
    (h i (omega arith))) in
    at_kind limits count weight m r kind e ∙ (last_reason _ (all_fit m kind (repeats r)) none ∙ ap (λ (b : Bool). first_of ((not b, CoordinateRange) ∷ [])) fits)

copies-append : (m : ModalState) (r : Record) (ds es : List GDelta) → copies_at m r (ds ++ es) ≡ copies_at m r ds ++ copies_at m r es
copies-append m r [] es = refl
copies-append m r (d ∷ ds) es =
    ap (λ (rest : List Drawn). option_to_list (drawn_at m r d) ++ rest) (copies-append m r ds es) ∙
    sym (append_assoc (option_to_list (drawn_at m r d)) (copies_at m r ds) (copies_at m r es))

one_copy : (o : Option Drawn) → option_to_list o ++ [] ≡ option_to_list o
one_copy None = refl
one_copy (Some d) = refl

-- the first copies, and one more
pub one_more : (m : ModalState) (r : Record) (n : ℕ) → copies_at m r (first_offsets m r (n + 1)) ≡ copies_at m r (first_offsets m r n)
    ++ option_to_list (drawn_at m r (offset_if (repeats r) m.repetition n))
one_more m r n =
    ap (copies_at m r) (map-range_with_len_more (offset_if (repeats r) m.repetition) 0 n n (omega arith)) ∙
    (copies-append m r (first_offsets m r n) (offset_if (repeats r) m.repetition n ∷ []) ∙
    ap (λ (rest : List Drawn). copies_at m r (first_offsets m r n) ++ rest) (one_copy (drawn_at m r (offset_if (repeats r) m.repetition n))))

-- the copies of a record are on its places, equally many on each
pub on_places : (repeated : Bool) (modal : Option Repetition) → ArePlaces (number_if repeated modal) (offset_if repeated modal) (places_if repeated modal)
on_places false modal = apart (offset_if false modal) 1
on_places true None = apart (offset_if true None) 0
on_places true (Some repetition) = places repetition
