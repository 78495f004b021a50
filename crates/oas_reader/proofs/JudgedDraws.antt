-- What an element record draws in the open cell: why it is refused, and what is held once it is taken.
use Rattle.std.proofs.Common.{◌≡◌, ℕ, ◌+◌, ◌*◌, ◌<◌, ◌≤◌, List, [], ◌∷◌, ◌++◌, length, refl, sym, ap, ◌∙◌, subst, arith, Bool, true, false, ◌⊎◌, inl, inr}
use Rattle.std.specs.Prelude.{Option, None, Some, is_some, not, cond, sum_by}
use Rattle.std.specs.Option.{option_or, option_to_list}
use Rattle.std.specs.List.{AllByRecursion}
use Rattle.oas_num.specs.declared.refusals.Why.{Why}
use Rattle.oas_num.specs.declared.refusals.Why.TheVariants.{OutOfPlace, Memory, CoordinateRange}
use Rattle.oas_shape.specs.Steps.{still}
use Rattle.oas_record.specs.declared.records.Record.{Record}
use Rattle.oas_record.specs.Records.{id_of}
use Rattle.oas_drawing.specs.declared.drawn.Drawn.{Drawn}
use Rattle.oas_drawing.specs.declared.kinds.Kind.{Kind}
use Rattle.oas_reader.specs.declared.parts.Parts.{Parts}
use Rattle.oas_drawing.specs.Positions.{IsNear}
use Rattle.oas_drawing.specs.Modal.{ModalState, stepped}
use Rattle.oas_reader.specs.Names.{cell_names, text_strings, with_name, table_reason, same_string}
use Rattle.oas_drawing.specs.Drawn.{weight_so_far}
use Rattle.oas_drawing.specs.Drawing.{kind_of, repeats, drawn_by, place_of, offset_if, number_if}
use Rattle.oas_drawing.specs.Reasons.{first_of, weight_if, fault_of, kind_reason, all_fit, reason_if, draw_reason}
use Rattle.oas_reader.specs.Meaning.{DrawnCell}
use Rattle.oas_reader.specs.Stores.{Store, Draws, total_count, HoldCells}
use Rattle.oas_reader.specs.Standing.{drawn_of, weight_with, open_after, MayRunOut, drawn_after}
use Rattle.oas_reader.specs.Parts.{standing, cells, reason_of, Sound, Took}
use Rattle.oas_reader.specs.Copying.{first_copies}
use Rattle.oas_drawing.proofs.Copies.{refused_before, refused_at, allowed_all}
use Rattle.oas_reader.proofs.CopyLemmas.{drawn_of-kind}
use Rattle.oas_reader.proofs.StoreLemmas.{total_append, hold_drawn}
use Rattle.oas_reader.proofs.TakeLemmas.{standing_of, all_append}
use Rattle.oas_reader.proofs.DrawLemmas.{AllNear, copy_number, copy_weight, IsElement, IsSkipped, is_element, is_passed, near_after}

-- ---- what is held

pub all_front : {A : Type 0} (P : A → Type 0) (xs ys : List A) → AllByRecursion P (xs ++ ys) → AllByRecursion P xs × AllByRecursion P ys
all_front P [] ys a = (tt, a)
all_front P (x ∷ xs) ys a = let b = all_front P xs ys a.1 in ((a.0, b.0), b.1)

-- no more is drawn in the open cell than there is in all
pub held_room : {S : Type 0} (t : Store S) (p : Parts S) (held : S) → Sound t p → p.cell ≡ Some held → t.count held ≤ p.limits.elements
held_room {S} t p held s is = omega (arith, s.few, s.total, ap (λ (o : Option S). total_count t (p.done.items ++ option_to_list o)) is, total_append t p.done.items (held ∷ []))

-- ---- why it is refused

-- an element record in the open cell
pub record InCell {S : Type 0} (t : Store S) (p : Parts S) (r : Record) (kind : Kind) (held : S) (m : ModalState) (repeated : Bool) : Type 0 where
  pub kind_is : kind_of r ≡ Some kind
  pub held_is : p.cell ≡ Some held
  pub modal_is : m ≡ stepped p.modal r
  pub repeats_is : repeated ≡ repeats r
  pub sound : Sound t p

-- what is left once its copies are checked is the grid
grid_left : (fit : Bool) → MayRunOut (first_of ((not fit, CoordinateRange) ∷ []))
grid_left true = inl refl
grid_left false = inr refl

module _ {S : Type 0} (t : Store S) (p : Parts S) (r : Record) (kind : Kind) (held : S) (m : ModalState) (repeated : Bool) (c : InCell t p r kind held m repeated) where
  abbrev judged_with : Bool → ModalState → Option Why
  judged_with b v = cond b (draw_reason p.limits p.count p.weight v r) (Some (OutOfPlace (id_of r)))

  judged_in : reason_of p r ≡ draw_reason p.limits p.count p.weight m r
  judged_in = (is_element r kind c.kind_is).judged p.limits (λ x. table_reason same_string p.names (cell_names x)) (λ x. table_reason same_string p.strings (text_strings x)) (standing p)
      ∙ (λ i. judged_with (is_some (c.held_is i)) (sym c.modal_is i))

  by_repeats : (w : Option Why) → kind_reason p.limits p.count p.weight m kind repeated ≡ w → kind_reason p.limits p.count p.weight m kind (repeats r) ≡ w
  by_repeats w h = ap (λ (b : Bool). kind_reason p.limits p.count p.weight m kind b) (sym c.repeats_is) ∙ h

  pub refused_number : (why : Why) → kind_reason p.limits p.count p.weight m kind repeated ≡ Some why → reason_of p r ≡ Some why
  refused_number why h = judged_in ∙ refused_before p.limits p.count p.weight m r kind why c.kind_is (by_repeats (Some why) h)

  -- refused for its kind, for its number or for one of its copies
  pub refused_kind : (why : Why) → reason_if p.limits p.count p.weight m (Some kind) repeated ≡ Some why → reason_of p r ≡ Some why
  refused_kind why h =
      let by_kind : draw_reason p.limits p.count p.weight m r ≡ reason_if p.limits p.count p.weight m (Some kind) (repeats r) =
      ap (λ (k : Option Kind). reason_if p.limits p.count p.weight m k (repeats r)) c.kind_is in
      let by_once : reason_if p.limits p.count p.weight m (Some kind) (repeats r) ≡ reason_if p.limits p.count p.weight m (Some kind) repeated =
      ap (λ (b : Bool). reason_if p.limits p.count p.weight m (Some kind) b) (sym c.repeats_is) in
      judged_in ∙ (by_kind ∙ (by_once ∙ h))

  may_want : kind_reason p.limits p.count p.weight m kind repeated ≡ None → MayRunOut (reason_of p r)
  may_want none =
      let left : Option Why = first_of ((not (all_fit m kind (repeats r)), CoordinateRange) ∷ []) in
      let drawn : draw_reason p.limits p.count p.weight m r ≡ left =
      ap (λ (k : Option Kind). reason_if p.limits p.count p.weight m k (repeats r)) c.kind_is ∙ ap (λ (o : Option Why). option_or o left) (by_repeats None none) in
      subst MayRunOut (sym (judged_in ∙ drawn)) (grid_left (all_fit m kind (repeats r)))

  abbrev Faulty : Bool → ℕ → Why → Type 0
  Faulty b n why = (i : ℕ) × (i < n) × (fault_of (drawn_by m kind (offset_if b m.repetition i)) ≡ Some why)

  pub refused_copy : (why : Why) (n : ℕ) → kind_reason p.limits p.count p.weight m kind repeated ≡ None → n ≡ number_if repeated m.repetition → (why ≡ Memory) ⊎ Faulty repeated n why
      → ((why ≡ Memory) × MayRunOut (reason_of p r)) ⊎ (reason_of p r ≡ Some why)
  refused_copy why n none number (inl h) = inl (h, may_want none)
  refused_copy why n none number (inr h) =
      let g : Faulty (repeats r) (number_if (repeats r) m.repetition) why =
      subst (λ (b : Bool). Faulty b (number_if b m.repetition) why) c.repeats_is (subst (λ (k : ℕ). Faulty repeated k why) number h) in
      inr (judged_in ∙ refused_at p.limits p.count p.weight m r kind g.0 why c.kind_is (by_repeats None none) g.1 g.2)

  abbrev AllIn : Bool → ℕ → Type 0
  AllIn b n = (i : ℕ) → i < n → fault_of (drawn_by m kind (offset_if b m.repetition i)) ≡ None

  pub allowed_draw : (n : ℕ) → kind_reason p.limits p.count p.weight m kind repeated ≡ None → n ≡ number_if repeated m.repetition → AllIn repeated n → reason_of p r ≡ None
  allowed_draw n none number fit =
      let g : AllIn (repeats r) (number_if (repeats r) m.repetition) = subst (λ (b : Bool). AllIn b (number_if b m.repetition)) c.repeats_is (subst (λ (k : ℕ). AllIn repeated k) number fit) in
      judged_in ∙ allowed_all p.limits p.count p.weight m r kind c.kind_is (by_repeats None none) g

  -- ---- what is kept after it

  abbrev drew_with : S → ℕ → ℕ → Parts S
  drew_with held' n w = record p { modal = m; cell = Some held'; count = p.count + n; weight = p.weight + w }

  -- what the record draws
  drawn_is : (n : ℕ) → n ≡ number_if repeated m.repetition → first_copies m kind repeated n ≡ drawn_of m r
  drawn_is n number =
      ap (first_copies m kind repeated) number ∙ ap (λ (b : Bool). first_copies m kind b (number_if b m.repetition)) c.repeats_is ∙ sym (drawn_of-kind m r kind c.kind_is)

  -- and may represent
  holds_drawn : (held' : S) → Draws t held (drawn_of m r) held' → (ds : List DrawnCell) → HoldCells t (cells p) ds → HoldCells t (p.done.items ++ held' ∷ []) (drawn_after ds m r)
  holds_drawn held' drawn ds h =
      let open_one : HoldCells t (p.done.items ++ held ∷ []) ds = subst (λ (o : Option S). HoldCells t (p.done.items ++ option_to_list o) ds) c.held_is h in
      subst (λ (es : List DrawnCell). HoldCells t (p.done.items ++ held' ∷ []) es) (sym ((is_element r kind c.kind_is).draws ds m))
      (hold_drawn t held held' (drawn_of m r) drawn p.done.items ds open_one)

  -- as many copies as are counted
  weighs_as : (n w : ℕ) → n ≡ number_if repeated m.repetition → w ≡ number_if repeated m.repetition * weight_if (drawn_by m kind still) → w ≡ n * weight_if (drawn_by m kind still)
  weighs_as n w number weighs = weighs ∙ ap (λ (k : ℕ). k * weight_if (drawn_by m kind still)) (sym number)

  draws_as : (held' : S) (n : ℕ) → n ≡ number_if repeated m.repetition → Draws t held (first_copies m kind repeated (number_if repeated m.repetition)) held'
      → Draws t held (first_copies m kind repeated n) held'
  draws_as held' n number drawn = subst (λ (k : ℕ). Draws t held (first_copies m kind repeated k) held') (sym number) drawn

  pub took_draw : (held' : S) (n w : ℕ) → kind_reason p.limits p.count p.weight m kind repeated ≡ None → n ≡ number_if repeated m.repetition
      → w ≡ number_if repeated m.repetition * weight_if (drawn_by m kind still) → Draws t held (first_copies m kind repeated (number_if repeated m.repetition)) held' → Took t p r (drew_with held' n w)
  took_draw held' n w none number weighs_all drawn_all =
      let weighs = weighs_as n w number weighs_all in
      let drawn = draws_as held' n number drawn_all in
      let all : IsElement r = is_element r kind c.kind_is in
      let there = (is_passed p.limits p.count p.weight m kind repeated none).there in
      let count : n ≡ length (drawn_of (stepped p.modal r) r) =
      sym (copy_number m kind repeated there n) ∙ (ap length (drawn_is n number) ∙ ap (λ (v : ModalState). length (drawn_of v r)) c.modal_is) in
      let weight : w ≡ weight_with r (drawn_of (stepped p.modal r) r) =
      weighs ∙ (sym (copy_weight m kind repeated n)
      ∙ (ap (sum_by weight_so_far) (drawn_is n number) ∙ (sym (all.weighs (drawn_of m r)) ∙ ap (λ (v : ModalState). weight_with r (drawn_of v r)) c.modal_is))) in
      let inside : true ≡ open_after (is_some p.cell) r = sym (all.inside (is_some p.cell) ∙ ap is_some c.held_is) in
      record {
        file = record { unit = refl; limits = refl; profile = refl };
        standing = (λ i. standing_of (c.modal_is i) (inside i) (p.count + count i) (p.weight + weight i));
        names = ap (with_name p.names) (sym all.no_name);
        strings = ap (with_name p.strings) (sym all.no_string);
        cells = holds_drawn held' (subst (λ (ds : List Drawn). Draws t held ds held') (drawn_is n number) drawn);
      }

  -- the numbers that the code works with
  pub number_fits : (n : ℕ) → kind_reason p.limits p.count p.weight m kind repeated ≡ None → n ≡ number_if repeated m.repetition → (p.count + n ≤ p.limits.elements)
      × (p.weight + n * weight_if (drawn_by m kind still) ≤ p.limits.weight)
  number_fits n none number =
      let passes : IsSkipped p.limits p.count p.weight m kind repeated = is_passed p.limits p.count p.weight m kind repeated none in
      (omega (arith, passes.few, number), subst (λ (k : ℕ). p.weight + k * weight_if (drawn_by m kind still) ≤ p.limits.weight) (sym number) passes.light)

  pub sound_draw : (held' : S) (n w : ℕ) → kind_reason p.limits p.count p.weight m kind repeated ≡ None → n ≡ number_if repeated m.repetition
      → w ≡ number_if repeated m.repetition * weight_if (drawn_by m kind still) → IsNear (place_of m kind) → Draws t held (first_copies m kind repeated (number_if repeated m.repetition)) held'
      → Sound t (drew_with held' n w)
  sound_draw held' n w none number weighs_all place drawn_all =
      let weighs = weighs_as n w number weighs_all in
      let drawn = draws_as held' n number drawn_all in
      let s : Sound t p = c.sound in
      let passes : IsSkipped p.limits p.count p.weight m kind repeated = is_passed p.limits p.count p.weight m kind repeated none in
      let fits = number_fits n none number in
      let near : AllNear m = near_after p.modal m r kind c.kind_is c.modal_is (s.placement, s.text, s.geometry) place in
      let before = all_front t.IsSound p.done.items (held ∷ []) (subst (λ (o : Option S). AllByRecursion t.IsSound (p.done.items ++ option_to_list o)) c.held_is s.sound) in
      record {
        placement = near.0;
        text = near.1;
        geometry = near.2;
        few = fits.0;
        light = subst (λ (k : ℕ). p.weight + k ≤ p.limits.weight) (sym weighs) fits.1;
        sound = all_append t.IsSound p.done.items (held' ∷ []) before.0 (drawn.sound before.1.0, tt);
        total = omega (
          arith,
          s.total,
          total_append t p.done.items (held' ∷ []),
          total_append t p.done.items (held ∷ []),
          ap (λ (o : Option S). total_count t (p.done.items ++ option_to_list o)) c.held_is,
          drawn.count,
          copy_number m kind repeated passes.there n,
        );
      }
