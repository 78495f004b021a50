-- the copies of a record that are held, place by place
use Rattle.std.proofs.Common.{◌≡◌, ℕ, zero, suc, ◌+◌, ◌*◌, ◌<◌, ◌≤◌, List, [], ◌∷◌, ◌++◌, map, length, refl, sym, ap, ◌∙◌, subst, arith, Bool, true, false, append_assoc, length-append, ◌⊎◌, inl, inr}
use Rattle.std.specs.Prelude.{Option, None, Some, nat_lt, sum_by, ◌^◌}
use Rattle.std.proofs.lemmas.Nat.{mul-le}
use Rattle.std.proofs.lemmas.Bool.Decides.{nat_tests}
use Rattle.oas_drawing.specs.Reasons.{weight_if, fault_of}
use Rattle.std.specs.Option.{option_to_list}
use Rattle.std.specs.List.{range_with_len}
use Rattle.std.proofs.lemmas.List.{length-replicate}
use Rattle.std.proofs.lemmas.List.Folds.{sum_by-replicate}
use Rattle.std.proofs.lemmas.List.Sums.{sum_by-cons, sum_by-append}
use Rattle.std.proofs.lemmas.List.FromFn.{map-range_with_len_more, sum_by-map-range_with_len_more}
use Rattle.oas_num.specs.declared.deltas.GDelta.{GDelta}
use Rattle.oas_num.specs.declared.refusals.Why.{Why}
use Rattle.oas_num.specs.declared.refusals.Why.TheVariants.{Memory}
use Rattle.oas_shape.specs.Steps.{still}
use Rattle.oas_shape.specs.declared.places.Places.{Places}
use Rattle.oas_shape.specs.Places.{ArePlaces}
use Rattle.oas_record.specs.declared.records.Record.{Record}
use Rattle.oas_drawing.specs.declared.drawn.Drawn.{Drawn}
use Rattle.oas_drawing.specs.declared.kinds.Kind.{Kind}
use Rattle.oas_drawing.specs.Modal.{ModalState}
use Rattle.oas_drawing.specs.Drawing.{kind_of, repeats, drawn_if, copies_at, offset_if, number_if, places_if, offsets_of, drawn_by}
use Rattle.oas_drawing.proofs.Copies.{on_places}
use Rattle.oas_reader.specs.Standing.{drawn_of}
use Rattle.oas_reader.specs.Stores.{Store, Draws}
use Rattle.oas_reader.specs.Alike.{SameDrawn}
use Rattle.oas_reader.specs.Copying.{copies_by, first_copies, drawn_times, stacks_by, place_offset, first_stacks}
use Rattle.oas_drawing.proofs.AllKinds.{drawn_alike}
use Rattle.oas_reader.proofs.StoreLemmas.{draws_then, draws_same}

copies_by-append : (m : ModalState) (kind : Kind) (xs ys : List GDelta) → copies_by m kind (xs ++ ys) ≡ copies_by m kind xs ++ copies_by m kind ys
copies_by-append m kind [] ys = refl
copies_by-append m kind (x ∷ xs) ys = ap (λ (ds : List Drawn). option_to_list (drawn_by m kind x) ++ ds) (copies_by-append m kind xs ys)
    ∙ sym (append_assoc (option_to_list (drawn_by m kind x)) (copies_by m kind xs) (copies_by m kind ys))

append_nil : {A : Type 0} (xs : List A) → xs ++ [] ≡ xs
append_nil [] = refl
append_nil (x ∷ xs) = ap (λ ys. x ∷ ys) (append_nil xs)

-- one more copy
pub next_copy : (m : ModalState) (kind : Kind) (repeated : Bool) (n : ℕ) → first_copies m kind repeated (n + 1) ≡ first_copies m kind repeated n
    ++ option_to_list (drawn_by m kind (offset_if repeated m.repetition n))
next_copy m kind repeated n =
    ap (copies_by m kind) (map-range_with_len_more (offset_if repeated m.repetition) 0 n n (omega arith))
    ∙ copies_by-append m kind (map (offset_if repeated m.repetition) (range_with_len 0 n)) (offset_if repeated m.repetition n ∷ [])
    ∙ ap (λ (ds : List Drawn). first_copies m kind repeated n ++ ds) (append_nil (option_to_list (drawn_by m kind (offset_if repeated m.repetition n))))

-- the copies of a record are those of its kind
copies_at-kind : (m : ModalState) (r : Record) (kind : Kind) (ds : List GDelta) → kind_of r ≡ Some kind → copies_at m r ds ≡ copies_by m kind ds
copies_at-kind m r kind [] e = refl
copies_at-kind m r kind (d ∷ ds) e = (λ i. option_to_list (drawn_if m (e i) d) ++ copies_at-kind m r kind ds e i)

pub drawn_of-kind : (m : ModalState) (r : Record) (kind : Kind) → kind_of r ≡ Some kind → drawn_of m r ≡ first_copies m kind (repeats r) (number_if (repeats r) m.repetition)
drawn_of-kind m r kind e = copies_at-kind m r kind (offsets_of m r) e

-- ---- place by place

stacks_by-append : (m : ModalState) (kind : Kind) (n : ℕ) (xs ys : List GDelta) → stacks_by m kind n (xs ++ ys) ≡ stacks_by m kind n xs ++ stacks_by m kind n ys
stacks_by-append m kind n [] ys = refl
stacks_by-append m kind n (x ∷ xs) ys = ap (λ (ds : List Drawn). drawn_times n (drawn_by m kind x) ++ ds) (stacks_by-append m kind n xs ys)
    ∙ sym (append_assoc (drawn_times n (drawn_by m kind x)) (stacks_by m kind n xs) (stacks_by m kind n ys))

-- what an offset counts for
abbrev counts_for : ModalState → Kind → (Drawn → ℕ) → GDelta → ℕ
counts_for m kind g d = sum_by g (option_to_list (drawn_by m kind d))

sum_times : (g : Drawn → ℕ) (n : ℕ) (o : Option Drawn) → sum_by g (drawn_times n o) ≡ n * sum_by g (option_to_list o)
sum_times g n None = omega arith
sum_times g n (Some d) = sum_by-replicate g n d ∙ let one : sum_by g (d ∷ []) ≡ g d = omega arith in ap (λ (k : ℕ). n * k) (sym one)

sum_stacks : (m : ModalState) (kind : Kind) (g : Drawn → ℕ) (n : ℕ) (ds : List GDelta) → sum_by g (stacks_by m kind n ds) ≡ n * sum_by (counts_for m kind g) ds
sum_stacks m kind g n [] = omega arith
sum_stacks m kind g n (d ∷ ds) =
    let split : n * (counts_for m kind g d + sum_by (counts_for m kind g) ds) ≡ n * counts_for m kind g d + n * sum_by (counts_for m kind g) ds = omega arith in
    sum_by-append g (drawn_times n (drawn_by m kind d)) (stacks_by m kind n ds)
    ∙ (λ i. sum_times g n (drawn_by m kind d) i + sum_stacks m kind g n ds i)
    ∙ sym split
    ∙ ap (λ (k : ℕ). n * k) (sym (sum_by-cons (counts_for m kind g) d ds))

sum_copies : (m : ModalState) (kind : Kind) (g : Drawn → ℕ) (ds : List GDelta) → sum_by g (copies_by m kind ds) ≡ sum_by (counts_for m kind g) ds
sum_copies m kind g [] = refl
sum_copies m kind g (d ∷ ds) =
    sum_by-append g (option_to_list (drawn_by m kind d)) (copies_by m kind ds)
    ∙ ap (λ (k : ℕ). counts_for m kind g d + k) (sum_copies m kind g ds)
    ∙ sym (sum_by-cons (counts_for m kind g) d ds)

-- numbers whose sum is none are none each
sum_none : {A : Type 0} (g : A → ℕ) (f : ℕ → A) (n : ℕ) → ((j : ℕ) → j < n → g (f j) ≡ 0) → sum_by g (map f (range_with_len 0 n)) ≡ 0
sum_none g f zero h = refl
sum_none g f (suc n) h =
    let on : suc n ≡ n + 1 = omega arith in
    ap (λ (k : ℕ). sum_by g (map f (range_with_len 0 k))) on
    ∙ omega (arith, sum_by-map-range_with_len_more g f 0 n n (omega arith), sum_none g f n (λ j lt. h j (omega arith)), h n (omega arith))

each_none : {A : Type 0} (g : A → ℕ) (f : ℕ → A) (n i : ℕ) → i < n → sum_by g (map f (range_with_len 0 n)) ≡ 0 → g (f i) ≡ 0
each_none g f zero i lt e = omega (arith, lt)
each_none {A} g f (suc n) i lt e =
    let on : suc n ≡ n + 1 = omega arith in
    let all = sum_by-map-range_with_len_more g f 0 n n (omega arith) in
    let sums = ap (λ (k : ℕ). sum_by g (map f (range_with_len 0 k))) on in
    elim (nat_lt i n) as (λ b. nat_lt i n ≡ b → g (f i) ≡ 0) [
      | true ↦ λ h. each_none g f n i (grind (arith, nat_tests)) (omega (arith, all, sums, e))
      | false ↦ λ h. let last : n ≡ i = grind (arith, nat_tests) in subst (λ (k : ℕ). g (f k) ≡ 0) last (omega (arith, all, sums, e))
    ] refl

-- one where there is a fault
abbrev faults : Option Why → ℕ
faults None = 0
faults (Some why) = 1

no_fault_none : (o : Option Why) → faults o ≡ 0 → o ≡ None
no_fault_none None e = refl
no_fault_none (Some why) e = cc

-- the copies of a record are on its places
pub here : (m : ModalState) (repeated : Bool) (p : Places) → p ≡ places_if repeated m.repetition → ArePlaces (number_if repeated m.repetition) (offset_if repeated m.repetition) p
here m repeated p e = subst (ArePlaces (number_if repeated m.repetition) (offset_if repeated m.repetition)) (sym e) (on_places repeated m.repetition)

-- this many copies, by their places
module _ (m : ModalState) (kind : Kind) (repeated : Bool) (p : Places) where
  abbrev AreHere : ℕ → Type 0
  AreHere number = ArePlaces number (offset_if repeated m.repetition) p

  -- the copies on one more place
  pub next_stack : (n : ℕ) → first_stacks m kind repeated p (n + 1) ≡ first_stacks m kind repeated p n ++ drawn_times p.copies (drawn_by m kind (place_offset m repeated p n))
  next_stack n =
      ap (stacks_by m kind p.copies) (map-range_with_len_more (place_offset m repeated p) 0 n n (omega arith))
      ∙ stacks_by-append m kind p.copies (map (place_offset m repeated p) (range_with_len 0 n)) (place_offset m repeated p n ∷ [])
      ∙ ap (λ (ds : List Drawn). first_stacks m kind repeated p n ++ ds) (append_nil (drawn_times p.copies (drawn_by m kind (place_offset m repeated p n))))

  -- and drawn
  pub draws_next : {S : Type 0} (t : Store S) (n : ℕ) (before now after : S)
      → Draws t before (first_stacks m kind repeated p n) now → Draws t now (drawn_times p.copies (drawn_by m kind (place_offset m repeated p n))) after → Draws t before (first_stacks m kind repeated p (n + 1)) after
  draws_next t n before now after f g =
      subst (λ (ds : List Drawn). Draws t before ds after) (sym (next_stack n))
      (draws_then t before now after (first_stacks m kind repeated p n) (drawn_times p.copies (drawn_by m kind (place_offset m repeated p n))) f g)

  -- place by place each thing is drawn as often
  same_drawn : (number : ℕ) → AreHere number → SameDrawn (first_stacks m kind repeated p p.number) (first_copies m kind repeated number)
  same_drawn number h = record {
    sums = λ g.
        sum_stacks m kind g p.copies (map (place_offset m repeated p) (range_with_len 0 p.number))
        ∙ sym (h.sums (counts_for m kind g))
        ∙ sym (sum_copies m kind g (map (offset_if repeated m.repetition) (range_with_len 0 number)));
  }

  pub draws_all : {S : Type 0} (t : Store S) → ((s : S) (ds es : List Drawn) → t.Holds s ds → SameDrawn ds es → t.Holds s es) → (number : ℕ) (before after : S) → AreHere number
      → Draws t before (first_stacks m kind repeated p p.number) after → Draws t before (first_copies m kind repeated number) after
  draws_all t alike number before after h f =
      draws_same t alike before after (first_stacks m kind repeated p p.number) (first_copies m kind repeated number) (same_drawn number h) f

  -- no more copies than on all places
  few_drawn : (o : Option Drawn) → length (drawn_times p.copies o) ≤ p.copies
  few_drawn None = omega arith
  few_drawn (Some d) = omega (arith, length-replicate p.copies d)

  few_stacks : (n : ℕ) → length (first_stacks m kind repeated p n) ≤ n * p.copies
  few_stacks zero = omega arith
  few_stacks (suc n) =
      let on : n + 1 ≡ suc n = omega arith in
      let more : suc n * p.copies ≡ n * p.copies + p.copies = omega arith in
      omega (
        arith,
        more,
        ap (λ (k : ℕ). length (first_stacks m kind repeated p k)) on,
        ap length (next_stack n),
        length-append (first_stacks m kind repeated p n) (drawn_times p.copies (drawn_by m kind (place_offset m repeated p n))),
        few_drawn (drawn_by m kind (place_offset m repeated p n)),
        few_stacks n,
      )

  -- up to a place
  up_to : (number n : ℕ) → AreHere number → n < p.number → n * p.copies + p.copies ≤ number
  up_to number n h lt =
      let more : (n + 1) * p.copies ≡ n * p.copies + p.copies = omega arith in
      omega (arith, more, mul-le (n + 1) p.copies p.number p.copies (omega arith) (omega arith), h.all)

  -- there is room for the copies on one more place
  pub room_next : {S : Type 0} (t : Store S) (number n : ℕ) (before now : S) → AreHere number → n < p.number → Draws t before (first_stacks m kind repeated p n) now → t.count before ≤ 2 ^ 26
      → number ≤ 2 ^ 26 → t.count now + p.copies < 2 ^ 64
  room_next t number n before now h lt f room small = omega (arith, f.count, few_stacks n, up_to number n h lt, room, small)

  abbrev Fits : GDelta → Type 0
  Fits d = fault_of (drawn_by m kind d) ≡ None

  -- and they are within the grid
  pub fit_next : (n : ℕ) → ((j : ℕ) → j < n → Fits (place_offset m repeated p j)) → Fits (place_offset m repeated p n) → (j : ℕ) → j < n + 1 → Fits (place_offset m repeated p j)
  fit_next n before last j below =
      elim (nat_lt j n) as (λ b. nat_lt j n ≡ b → Fits (place_offset m repeated p j)) [
        | true ↦ λ e. before j (grind (arith, nat_tests))
        | false ↦ λ e. let same : n ≡ j = grind (arith, nat_tests) in subst (λ (k : ℕ). Fits (place_offset m repeated p k)) same last
      ] refl

  -- all copies are, where those are that come first on their places
  pub fit_all : (number : ℕ) → AreHere number → ((j : ℕ) → j < p.number → Fits (place_offset m repeated p j)) → (i : ℕ) → i < number → Fits (offset_if repeated m.repetition i)
  fit_all number h fits i lt =
      let g : GDelta → ℕ = λ d. faults (fault_of (drawn_by m kind d)) in
      let none : sum_by g (map (place_offset m repeated p) (range_with_len 0 p.number)) ≡ 0 = sum_none g (place_offset m repeated p) p.number (λ j below. ap faults (fits j below)) in
      let nothing : p.copies * 0 ≡ 0 = omega arith in
      no_fault_none (fault_of (drawn_by m kind (offset_if repeated m.repetition i)))
      (each_none g (offset_if repeated m.repetition) number i lt (h.sums g ∙ ap (λ (k : ℕ). p.copies * k) none ∙ nothing))

  -- where one of them is at fault
  pub fault_at : (number n : ℕ) (why : Why) → AreHere number → n < p.number → (why ≡ Memory) ⊎ (fault_of (drawn_by m kind (place_offset m repeated p n)) ≡ Some why)
      → (why ≡ Memory) ⊎ ((i : ℕ) × (i < number) × (fault_of (drawn_by m kind (offset_if repeated m.repetition i)) ≡ Some why))
  fault_at number n why h lt (inl e) = inl e
  fault_at number n why h lt (inr e) = inr (n * p.stride, h.within n lt, e)

  -- ---- their weight

  abbrev one : ℕ
  one = weight_if (drawn_by m kind still)

  -- each copy weighs the same
  one_weight : (n w : ℕ) → w ≡ weight_if (drawn_by m kind (place_offset m repeated p n)) → w * p.copies ≡ p.copies * one
  one_weight n w e =
      let turned : p.copies * one ≡ one * p.copies = omega arith in
      ap (λ (k : ℕ). k * p.copies) (e ∙ (drawn_alike m kind (place_offset m repeated p n) still).0) ∙ sym turned

  pub weight_next : (n w : ℕ) (weight : ℕ) → w ≡ weight_if (drawn_by m kind (place_offset m repeated p n)) → weight ≡ n * (p.copies * one)
      → weight + w * p.copies ≡ (n + 1) * (p.copies * one)
  weight_next n w weight e is =
      let more : (n + 1) * (p.copies * one) ≡ n * (p.copies * one) + p.copies * one = omega arith in
      omega (arith, more, one_weight n w e, is)

  -- and all together
  pub weight_all : (number : ℕ) → AreHere number → p.number * (p.copies * one) ≡ number * one
  weight_all number h =
      let joined : p.number * (p.copies * one) ≡ (p.number * p.copies) * one = omega arith in
      joined ∙ ap (λ (k : ℕ). k * one) h.all

  -- no more than all do
  pub weight_room : (number n w : ℕ) (weight : ℕ) → AreHere number → w ≡ weight_if (drawn_by m kind (place_offset m repeated p n)) → weight ≡ n * (p.copies * one) → n < p.number
      → number * one ≤ 2 ^ 30 → weight + w * p.copies < 2 ^ 64
  weight_room number n w weight h e is lt light =
      let most : (n + 1) * (p.copies * one) ≤ p.number * (p.copies * one) = mul-le (n + 1) (p.copies * one) p.number (p.copies * one) (omega arith) (omega arith) in
      omega (arith, weight_next n w weight e is, most, weight_all number h, light)
