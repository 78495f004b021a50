-- The canonical records of elements of one kind are a series.
use Rattle.std.proofs.Common.{◌≡◌, ℕ, ◌+◌, ◌≤◌, Bool, true, false, List, [], ◌∷◌, ◌++◌, map, reverse, length, Option, None, Some, refl, sym, ap, subst, ◌∙◌, append_assoc, arith}
use Rattle.std.proofs.lemmas.List.{reverse-append, append-nil}
use Rattle.std.specs.Prelude.{◌*◌, cond, not, nat_lt, sum_by, is_none}
use Rattle.std.specs.Option.{option_or}
use Rattle.std.specs.List.{AllByRecursion}
use Rattle.oas_num.specs.declared.refusals.Why.{Why}
use Rattle.oas_num.specs.declared.refusals.Why.TheVariants.{ModalUndefined, Magnification, Angle, TooManyElements, TooHeavy, PointCount, CoordinateRange}
use Rattle.oas_shape.specs.Steps.{still}
use Rattle.oas_record.specs.declared.records.Record.{Record}
use Rattle.oas_elements.specs.declared.element.Element.{Element}
use Rattle.oas_elements.specs.declared.element.Element.TheVariants.{Placement, Text, Rectangle, Polygon, Path, Circle}
use Rattle.oas_elements.specs.declared.limits.Limits.{Limits}
use Rattle.oas_elements.specs.Element.{kind}
use Rattle.oas_elements.specs.Grid.{fits_grid}
use Rattle.oas_elements.specs.Weight.{weight_of, lacks_points}
use Rattle.oas_file.specs.Drawn.{Drawn}
use Rattle.oas_file.specs.Drawn.TheVariants.{Named}
use Rattle.oas_file.specs.Kind.{Kind}
use Rattle.oas_file.specs.Drawing.{repeats, place_of, drawn_by, number_if, lacks_repetition, elements_at}
use Rattle.oas_file.specs.Meaning.{DrawnCell, in_last, cells_drawn}
use Rattle.oas_file.specs.Modal.{ModalState, modal_of, stepped}
use Rattle.oas_file.specs.Names.{cell_names, text_strings}
use Rattle.oas_file.specs.Reasons.{is_magnified, is_askew, weight_if, lacks_if, is_on_grid, kind_reason, reason_if, draw_reason}
use Rattle.oas_file.specs.Series.{IsSeries, LandsNear}
use Rattle.oas_file.specs.Stands as stands
use Rattle.oas_file.specs.Stands.{is_in_cell, number_drawn, weight_so_far_of, seen}
use Rattle.oas_file.proofs.Grids.{on_grid}
use Rattle.oas_file.proofs.Steps.{modal_step}
use Rattle.oas_form.specs.Records.{element_record}
use Rattle.oas_form.proofs.AllKinds.{of_element}
use Rattle.oas_form.proofs.AllowedLemmas.{Goes, open_stays, elements_go}
use Rattle.oas_form.proofs.MeantLemmas.{onto, reverse-onto, IsAbsolute, draws, absolute_element, drawn_in_last}

-- ---- the variables

-- where coordinates are absolute, an element's record hides one before it of the same kind
hides : (m : ModalState) (f e : Element) → kind f ≡ kind e → m.relative ≡ false → stepped (stepped m (element_record f)) (element_record e) ≡ stepped m (element_record e)
hides m (Placement a b c d e) (Placement a' b' c' d' e') same absolute = rw absolute refl
hides m (Text a b c d e) (Text a' b' c' d' e') same absolute = rw absolute refl
hides m (Rectangle a b c d e f) (Rectangle a' b' c' d' e' f') same absolute = rw absolute refl
hides m (Polygon a b c) (Polygon a' b' c') same absolute = rw absolute refl
hides m (Path a b c d e f) (Path a' b' c' d' e' f') same absolute = rw absolute refl
hides m (Circle a b c d e) (Circle a' b' c' d' e') same absolute = rw absolute refl
hides m f e same absolute = absurd (omega (arith, same))

modal_series : (es : List Element) (e : Element) (before : List Record) → IsAbsolute before → AllByRecursion (λ f. kind f ≡ kind e) es
    → modal_of (onto (map element_record (es ++ e ∷ [])) before) ≡ stepped (modal_of before) (element_record e)
modal_series [] e before absolute alike = modal_step before (element_record e)
modal_series (f ∷ fs) e before absolute alike =
    modal_series fs e (element_record f ∷ before) (absolute_element f before ∙ absolute) alike.1
    ∙ (ap (λ (m : ModalState). stepped m (element_record e)) (modal_step before (element_record f)) ∙ hides (modal_of before) f e alike.0 absolute)

opened_series : (es : List Element) (before : List Record) → is_in_cell (onto (map element_record es) before) ≡ is_in_cell before
opened_series [] before = refl
opened_series (e ∷ es) before = opened_series es (element_record e ∷ before) ∙ open_stays e before

-- ---- what is drawn

in_last_none : (cs : List DrawnCell) → in_last [] cs ≡ cs
in_last_none [] = refl
in_last_none (c ∷ []) = ap (λ (ds : List Drawn). (c.0, ds) ∷ []) (append-nil c.1)
in_last_none (c ∷ b ∷ cs) = ap (λ (xs : List DrawnCell). c ∷ xs) (in_last_none (b ∷ cs))

in_last_then : (ds es : List Drawn) (cs : List DrawnCell) → in_last es (in_last ds cs) ≡ in_last (ds ++ es) cs
in_last_then ds es [] = refl
in_last_then ds es (c ∷ []) = ap (λ (xs : List Drawn). (c.0, xs) ∷ []) (append_assoc c.1 ds es)
in_last_then ds es (c ∷ b ∷ []) = ap (λ (xs : List DrawnCell). c ∷ xs) (in_last_then ds es (b ∷ []))
in_last_then ds es (c ∷ b ∷ d ∷ cs) = ap (λ (xs : List DrawnCell). c ∷ xs) (in_last_then ds es (b ∷ d ∷ cs))

cells_series : (es : List Element) (before : List Record) → IsAbsolute before → AllByRecursion (λ e. lacks_points e ≡ false) es
    → cells_drawn elements_at (onto (map element_record es) before) ≡ in_last (map Named es) (cells_drawn elements_at before)
cells_series [] before absolute points = sym (in_last_none (cells_drawn elements_at before))
cells_series (e ∷ es) before absolute points =
    let one : cells_drawn elements_at (element_record e ∷ before) ≡ in_last (Named e ∷ []) (cells_drawn elements_at before) =
    drawn_in_last e before ∙ ap (λ (ds : List Drawn). in_last ds (cells_drawn elements_at before)) (draws e before absolute points.0) in
    cells_series es (element_record e ∷ before) (absolute_element e before ∙ absolute) points.1
    ∙ (ap (in_last (map Named es)) one ∙ in_last_then (Named e ∷ []) (map Named es) (cells_drawn elements_at before))

-- ---- its elements and its records

-- the record of an element names nothing
unnames : (e : Element) → (cell_names (element_record e) ≡ None) × (text_strings (element_record e) ≡ None)
unnames (Placement name x y turns flip) = (refl, refl)
unnames e = (refl, refl)

unnaming_series : (es : List Element) → AllByRecursion (λ r. (cell_names r ≡ None) × (text_strings r ≡ None)) (map element_record es)
unnaming_series [] = tt
unnaming_series (e ∷ es) = (unnames e, unnaming_series es)

-- ---- a series of elements

-- after these records there is room for elements of one kind, of which this is the last
pub record IsRoomy (limits : Limits) (rs : List Record) (es : List Element) (e : Element) : Type 0 where
  pub absolute : IsAbsolute (reverse rs)
  pub inside : is_in_cell (reverse rs) ≡ true
  pub allowed : stands.Allowed limits (reverse rs)
  pub alike : AllByRecursion (λ f. kind f ≡ kind e) es
  pub points : AllByRecursion (λ f. lacks_points f ≡ false) (es ++ e ∷ [])
  pub fit : AllByRecursion (λ f. fits_grid f ≡ true) (es ++ e ∷ [])
  pub few : number_drawn (reverse rs) + length (es ++ e ∷ []) ≤ limits.elements
  pub light : weight_so_far_of (reverse rs) + sum_by weight_of (es ++ e ∷ []) ≤ limits.weight

module _ (limits : Limits) (rs : List Record) (es : List Element) (e : Element) (h : IsRoomy limits rs es e) where
  abbrev pub series : List Record
  series = map element_record (es ++ e ∷ [])

  onto_series : reverse (rs ++ series) ≡ onto series (reverse rs)
  onto_series = reverse-append rs series ∙ reverse-onto series (reverse rs)

  goes : Goes limits (onto series (reverse rs)) (number_drawn (reverse rs) + length (es ++ e ∷ [])) (weight_so_far_of (reverse rs) + sum_by weight_of (es ++ e ∷ []))
  goes = elements_go limits (es ++ e ∷ []) (reverse rs) (number_drawn (reverse rs)) (weight_so_far_of (reverse rs)) (record { allowed = h.allowed; count_is = refl; weight_is = refl }) h.absolute h.inside
      h.points h.fit h.few h.light

  -- the reader takes it at once
  pub element_series : IsSeries rs series (element_record e) (length (es ++ e ∷ [])) (sum_by weight_of (es ++ e ∷ []))
  element_series = record {
    standing = ap (λ (xs : List Record). seen xs) onto_series
        ∙ (λ i. record { modal = modal_series es e (reverse rs) h.absolute h.alike i; in_cell = opened_series (es ++ e ∷ []) (reverse rs) i; count = goes.count_is i; weight = goes.weight_is i });
    unnaming = unnaming_series (es ++ e ∷ []);
    elements = es ++ e ∷ [];
    counted = record { number = refl; weighs = refl };
    cells = ap (λ (xs : List Record). cells_drawn elements_at xs) onto_series ∙ cells_series (es ++ e ∷ []) (reverse rs) h.absolute h.points;
  }

  -- and none of its records is refused
  pub series_allowed : stands.Allowed limits (reverse (rs ++ series))
  series_allowed = subst (stands.Allowed limits) (sym onto_series) goes.allowed

-- ---- where it ends

next_of : (b : Bool) (w : Why) (o : Option Why) → cond b (Some w) o ≡ None → o ≡ None
next_of false w o h = h
next_of true w o h = absurd cc

placed_of : (b : Bool) → cond (not b) (Some CoordinateRange) None ≡ None → b ≡ true
placed_of true h = refl
placed_of false h = absurd cc

kind_placed : (limits : Limits) (count weight : ℕ) (m : ModalState) (k : Kind) (repeated : Bool) → kind_reason limits count weight m k repeated ≡ None → is_on_grid (place_of m k) ≡ true
kind_placed limits count weight m k repeated h =
    let a = next_of (is_none (drawn_by m k still)) ModalUndefined _ h in
    let b = next_of (lacks_repetition repeated m.repetition) ModalUndefined _ a in
    let c = next_of (is_magnified k) Magnification _ b in
    let d = next_of (is_askew k) Angle _ c in
    let e = next_of (nat_lt limits.elements (count + number_if repeated m.repetition)) TooManyElements _ d in
    let f = next_of (nat_lt limits.weight (weight + number_if repeated m.repetition * weight_if (drawn_by m k still))) TooHeavy _ e in
    let g = next_of (lacks_if (drawn_by m k still)) PointCount _ f in
    placed_of (is_on_grid (place_of m k)) g

first_none : (a b : Option Why) → option_or a b ≡ None → a ≡ None
first_none None b h = refl
first_none (Some w) b h = absurd cc

-- the position after an element that is within the grid is within the limits
pub lands_near : (limits : Limits) (count weight : ℕ) (m : ModalState) (e : Element) → m.relative ≡ false → lacks_points e ≡ false → fits_grid e ≡ true → count + 1 ≤ limits.elements
    → weight + weight_of e ≤ limits.weight → LandsNear m (element_record e)
lands_near limits count weight m e absolute points inside few light =
    let o = of_element e in
    let r : Record = element_record e in
    let none : draw_reason limits count weight (stepped m r) r ≡ None =
    o.allowed limits count weight m absolute (record { drawn = o.drawn m absolute points; points = points; inside = inside; few = few; light = light }) in
    let of_kind : reason_if limits count weight (stepped m r) (Some o.kind) (repeats r) ≡ None = ap (λ (k : Option Kind). reason_if limits count weight (stepped m r) k (repeats r)) (sym o.is) ∙ none in
    record { kind = o.kind; is = o.is; near = on_grid (place_of (stepped m r) o.kind) (kind_placed limits count weight (stepped m r) o.kind (repeats r) (first_none _ _ of_kind)) }
