-- What is proved about placements: their records as they are read, what these draw, and the canonical record of one.
use Rattle.std.proofs.Common.{◌≡◌, ℕ, ◌-◌, ◌/◌, ◌%◌, ◌<◌, ◌≤◌, ◌^◌, Bool, true, false, List, ◌∷◌, ◌++◌, length, Some, refl, ap, arith, ◌+◌, Option, subst, ◌∙◌, ◌*◌, None, length-append, inl, inr, ◌&&◌, []}
use Rattle.std.specs.Prelude.{ℤ, nat_abs, ◌==◌, IfSome}
use Rattle.std.proofs.lemmas.Bool.{and_parts, cases_lt}
use Rattle.oas_num.specs.Grammar.{IsPair, IsThere}
use Rattle.oas_num.specs.Style.{Shortest, Any}
use Rattle.oas_num.specs.Texts.{IsName}
use Rattle.oas_ring.specs.declared.point.Point.{Point}
use Rattle.oas_record.specs.declared.references.CellRef.TheVariants as cell
use Rattle.oas_record.specs.declared.placements.Turn.TheVariants.{Quarters, Degrees}
use Rattle.oas_record.specs.Info.{has, info_in}
use Rattle.oas_record.specs.Placements.{IsPlacementInfo, IsCanonicalPlacement, quarters_in, degrees_in}
use Rattle.oas_elements.specs.declared.element.Turns.{Turns}
use Rattle.oas_elements.specs.declared.element.Turns.TheVariants.{T0, T1, T2, T3}
use Rattle.oas_elements.specs.Element.{turn_count}
use Rattle.oas_elements.specs.Grid.{is_coordinate}
use Rattle.oas_elements.specs.Sound.{IsSound, Fits}
use Rattle.oas_form.specs.Records.{spot_at, element_record}
use Rattle.oas_form.specs.Bytes.{string_bytes, place_bytes, placement_info, element_bytes}
use Rattle.oas_record.specs.declared.records.Record.TheVariants as record_of
use Rattle.oas_record.specs.Records.{after_id, record_in}
use Rattle.oas_elements.specs.Weight.{weight_of, lacks_points}
use Rattle.oas_form.specs.Spelling.{HasPoint}
use Rattle.oas_record.specs.declared.references.CellRef.{CellRef}
use Rattle.oas_record.specs.References.{cell_in}
use Rattle.oas_record.specs.declared.placements.Turn.{Turn}
use Rattle.oas_file.specs.GivenFields.{given_fields}
use Rattle.oas_file.specs.Drawn.TheVariants.{Named}
use Rattle.oas_file.specs.Modal.{ModalState, stepped}
use Rattle.oas_file.specs.Turns.{turned}
use Rattle.oas_file.specs.Drawing.{placement_at, drawn_at}
use Rattle.oas_shape.specs.Steps.{still}
use Rattle.oas_elements.specs.declared.limits.Limits.{Limits}
use Rattle.oas_file.specs.Reasons.{is_on_grid, draw_reason}
use Rattle.oas_record.specs.Fields.{spot_in}
use Rattle.oas_record.specs.Placements as placements
use Rattle.oas_record.specs.declared.placements.Placement.{Placement as OnePlacement}
use Rattle.oas_elements.specs.declared.element.Element.TheVariants.{Placement}
use Rattle.oas_file.specs.Kind.TheVariants as kinds
use Rattle.oas_form.proofs.ElementSpelling.{Inner, info_byte}
use Rattle.oas_form.proofs.FieldsFit.{is_spelled, named_fits}
use Rattle.oas_form.proofs.FieldsGiven.{CellFits, FieldsFit, fit, cell_fits, there, small, moved_fits}
use Rattle.oas_form.proofs.DrawnFits.{DrawnFits}
use Rattle.oas_form.proofs.Lengths.{length-string, length-place}
use Rattle.oas_form.proofs.DrawnAgain.{landed, stands_at}
use Rattle.oas_form.proofs.OneAllowed.{IsFine, none_wrong}
use Rattle.oas_form.proofs.KindLemmas.{IsDrawn, moved_on}
use Rattle.oas_form.proofs.OfElement.{OfElement}
use Rattle.oas_form.proofs.FieldSpelling.{name_spelled, near, spot_spelled}
use Rattle.oas_form.proofs.ShortFields.{given, spot_is}

-- ---- as it is read

-- its fields fit, in any style
pub quarters_given : (p : OnePlacement) (bytes : List ℕ) → quarters_in Any p bytes → FieldsFit (given_fields (record_of.Placement p))
quarters_given p bytes h = moved_fits record_of.Placement _ p h.is (fit (there CellFits (cell_in Any _) (cell_fits _) _ h.from.1.0 _ h.spelled.second.first) tt tt tt tt tt tt tt tt tt)

pub degrees_given : (p : OnePlacement) (bytes : List ℕ) → degrees_in Any p bytes → FieldsFit (given_fields (record_of.Placement p))
degrees_given p bytes h = moved_fits record_of.Placement _ p h.is (fit (there CellFits (cell_in Any _) (cell_fits _) _ h.from.1.0 _ h.spelled.second.first) tt tt tt tt tt tt tt tt tt)

-- one of eight numbers
one_of_eight : (P : ℕ → Type 0) → P 176 → P 177 → P 178 → P 179 → P 180 → P 181 → P 182 → P 183 → (n : ℕ) → 176 ≤ n → n < 184 → P n
one_of_eight P a b c d e f g h n low high =
    elim (cases_lt n 180) [
      | inl small ↦
          elim (cases_lt n 178) [
            | inl least ↦ elim (cases_lt n 177) [ inl is ↦ subst P (omega (arith, low, is)) a | inr is ↦ subst P (omega (arith, least, is)) b ]
            | inr more ↦ elim (cases_lt n 179) [ inl is ↦ subst P (omega (arith, more, is)) c | inr is ↦ subst P (omega (arith, small, is)) d ]
          ]
      | inr large ↦
          elim (cases_lt n 182) [
            | inl least ↦ elim (cases_lt n 181) [ inl is ↦ subst P (omega (arith, large, is)) e | inr is ↦ subst P (omega (arith, least, is)) f ]
            | inr more ↦ elim (cases_lt n 183) [ inl is ↦ subst P (omega (arith, more, is)) g | inr is ↦ subst P (omega (arith, high, is)) h ]
          ]
    ]

-- a cell by its name
record IsNamed (c : CellRef) : Type 0 where
  name : List ℕ
  is : cell.Name name ≡ c

named : (c : CellRef) (bytes : List ℕ) → cell_in Shortest false c bytes → IsNamed c
named c bytes h = record { name = h.from; is = h.is }

-- the fields that these quarter turns and this flip give
quarter_at : (turns : Turns) (flip : Bool) (u : placements.QuarterFields) (bytes : List ℕ) → IsPair (IsThere true (cell_in Shortest false)) (λ _. spot_in Shortest true true false) u bytes
    → IsDrawn (record_of.Placement (record { cell = u.0; turn = Quarters (turn_count turns); flip = flip; spot = u.1 }))
quarter_at turns flip u bytes f =
    let c = given _ _ _ f.first in
    let name = named c.value _ c.spelled in
    let cell_is : ◌≡◌ {A = Option CellRef} (Some (cell.Name name.name)) u.0 = ap (λ (v : CellRef). Some v) name.is ∙ c.is in
    let spot = spot_is _ _ f.second in
    record {
      element = Placement name.name spot.x spot.y turns flip;
      is = λ i. record_of.Placement (record { cell = cell_is i; turn = Quarters (turn_count turns); flip = flip; spot = spot.is i });
      points = refl;
    }

-- a placement with this info byte
abbrev AtInfo : ℕ → Type 0
AtInfo info = (u : placements.QuarterFields) (bytes : List ℕ) → placements.quarter_fields Shortest info u bytes → IsDrawn (record_of.Placement (placements.quarters_of (info, u)))

at_info : (info : ℕ) → 176 ≤ info → info < 184 → AtInfo info
at_info = one_of_eight AtInfo (quarter_at T0 false) (quarter_at T0 true) (quarter_at T1 false) (quarter_at T1 true) (quarter_at T2 false) (quarter_at T2 true) (quarter_at T3 false)
    (quarter_at T3 true)

quarters_is : (u : ℕ × placements.QuarterFields) (bytes : List ℕ) →
    IsPair (info_in placements.IsPlacementInfo placements.IsCanonicalPlacement Shortest) (placements.quarter_fields Shortest) u bytes → IsDrawn (record_of.Placement (placements.quarters_of u))
quarters_is u bytes h = at_info u.0 h.first.holds.1.0 h.first.holds.1.1 u.1 h.back h.second

pub placement_is : (in_end : Bool) (p : OnePlacement) (turn : Turn) (bytes : List ℕ) →
    after_id Shortest in_end (elim turn [ Quarters turns ↦ 17 | Degrees magnification angle ↦ 18 ]) (record_of.Placement p) bytes → IsDrawn (record_of.Placement p)
placement_is in_end p (Quarters turns) bytes h = moved_on _ _ (ap (λ (v : OnePlacement). record_of.Placement v) h.spelled.is ∙ h.is) (quarters_is h.spelled.from bytes h.spelled.spelled)
placement_is in_end p (Degrees magnification angle) bytes h = absurd h.spelled

-- ---- as it is drawn

-- what is drawn from fields that fit has fields that fit
pub drawn_fits : (c : Option CellRef) (turns : Turns) (flip : Bool) (at : Point) → IfSome c CellFits → IfSome (placement_at c turns flip at) DrawnFits
drawn_fits None turns flip at h = tt
drawn_fits (Some (cell.Number n)) turns flip at h = tt
drawn_fits (Some (cell.Name n)) turns flip at h = h

-- ---- its canonical record

turned_again : (turns : Turns) → turned (Quarters (turn_count turns)) ≡ turns
turned_again T0 = refl
turned_again T1 = refl
turned_again T2 = refl
turned_again T3 = refl

-- the info byte says what is given, the turns and the flip
record SaysPlacement (info quarters : ℕ) (flip : Bool) : Type 0 where
  pub low : 176 ≤ info
  pub high : info < 184
  pub cell : has info 128 ≡ true
  pub number : has info 64 ≡ false
  pub x : has info 32 ≡ true
  pub y : has info 16 ≡ true
  pub repetition : has info 8 ≡ false
  pub turned : info / 2 % 4 ≡ quarters
  pub flipped : (info % 2 == 1) ≡ flip

info_says : (turns : Turns) (flip : Bool) → SaysPlacement (placement_info (turn_count turns) flip) (turn_count turns) flip
info_says T0 false = record { low = omega arith; high = omega arith; cell = refl; number = refl; x = refl; y = refl; repetition = refl; turned = refl; flipped = refl }
info_says T0 true = record { low = omega arith; high = omega arith; cell = refl; number = refl; x = refl; y = refl; repetition = refl; turned = refl; flipped = refl }
info_says T1 false = record { low = omega arith; high = omega arith; cell = refl; number = refl; x = refl; y = refl; repetition = refl; turned = refl; flipped = refl }
info_says T1 true = record { low = omega arith; high = omega arith; cell = refl; number = refl; x = refl; y = refl; repetition = refl; turned = refl; flipped = refl }
info_says T2 false = record { low = omega arith; high = omega arith; cell = refl; number = refl; x = refl; y = refl; repetition = refl; turned = refl; flipped = refl }
info_says T2 true = record { low = omega arith; high = omega arith; cell = refl; number = refl; x = refl; y = refl; repetition = refl; turned = refl; flipped = refl }
info_says T3 false = record { low = omega arith; high = omega arith; cell = refl; number = refl; x = refl; y = refl; repetition = refl; turned = refl; flipped = refl }
info_says T3 true = record { low = omega arith; high = omega arith; cell = refl; number = refl; x = refl; y = refl; repetition = refl; turned = refl; flipped = refl }

placed : (info quarters : ℕ) (flip : Bool) (name : List ℕ) (x y : ℤ) → SaysPlacement info quarters flip → IsName name → nat_abs x ≤ 2 ^ 60 → nat_abs y ≤ 2 ^ 60
    → quarters_in Shortest (record { cell = Some (cell.Name name); turn = Quarters quarters; flip = flip; spot = spot_at x y }) (info ∷ (string_bytes name ++ place_bytes x y))
placed info quarters flip name x y says h near_x near_y = record {
  from = (info, (Some (cell.Name name), spot_at x y));
  is = λ i. record { cell = Some (cell.Name name); turn = Quarters (says.turned i); flip = says.flipped i; spot = spot_at x y };
  spelled = record {
    front = info ∷ [];
    back = string_bytes name ++ place_bytes x y;
    first = info_byte IsPlacementInfo IsCanonicalPlacement info (omega (arith, says.high)) (says.low, says.high) (omega (arith, says.high));
    joined = refl;
    second = rw (says.cell, says.number, says.x, says.y, says.repetition) (record {
      front = string_bytes name;
      back = place_bytes x y;
      first = record { from = name; is = refl; spelled = name_spelled name h };
      second = spot_spelled x y near_x near_y;
      joined = refl;
    });
  };
}

placement_spelled : (name : List ℕ) (x y : ℤ) (turns : Turns) (flip : Bool) → IsName name → (is_coordinate x && is_coordinate y) ≡ true
    → quarters_in Shortest (record { cell = Some (cell.Name name); turn = Quarters (turn_count turns); flip = flip; spot = spot_at x y })
    (placement_info (turn_count turns) flip ∷ (string_bytes name ++ place_bytes x y))
placement_spelled name x y turns flip h inside =
    let at = and_parts (is_coordinate x) (is_coordinate y) inside in
    placed (placement_info (turn_count turns) flip) (turn_count turns) flip name x y (info_says turns flip) h (near x at.0) (near y at.1)

spelled_fits : (p : OnePlacement) (name bytes : List ℕ) → p.cell ≡ Some (cell.Name name) → quarters_in Shortest p bytes → IsName name
spelled_fits p name bytes e h = named_fits _ name _ (is_spelled _ (cell_in Shortest _) h.from.1.0 (cell.Name name) _ (ap (λ (q : OnePlacement). q.cell) h.is ∙ e) h.spelled.second.first)

same_fields : (a b : OnePlacement) → record_of.Placement a ≡ record_of.Placement b → a ≡ b
same_fields a b e = cc

element_fits : (name : List ℕ) (x y : ℤ) (turns : Turns) (flip : Bool) (bytes : List ℕ) → record_in Shortest false (element_record (Placement name x y turns flip)) bytes → Fits (Placement name x y turns flip)
element_fits name x y turns flip bytes h =
    let s = h.parts.second in
    spelled_fits s.from name _ (ap (λ (p : OnePlacement). p.cell) (same_fields s.from _ s.is)) s.spelled

drawn_again : (name : List ℕ) (x y : ℤ) (turns : Turns) (flip : Bool) (m : ModalState) → m.relative ≡ false → lacks_points (Placement name x y turns flip) ≡ false →
    drawn_at (stepped m (element_record (Placement name x y turns flip))) (element_record (Placement name x y turns flip)) still ≡ Some (Named (Placement name x y turns flip))
drawn_again name x y turns flip m absolute h =
    ap (λ (at : Point). Some (Named (Placement name at.x at.y (turned (Quarters (turn_count turns))) flip))) (stands_at m.relative m.placement (record { x = x; y = y }) absolute)
    ∙ ap (λ (t : Turns). Some (Named (Placement name x y t flip))) (turned_again turns)

allowed_once : (limits : Limits) (count weight : ℕ) (m : ModalState) (name : List ℕ) (x y : ℤ) (turns : Turns) (flip : Bool) → m.relative ≡ false →
    IsFine limits count weight (stepped m (element_record (Placement name x y turns flip))) (Placement name x y turns flip) →
    draw_reason limits count weight (stepped m (element_record (Placement name x y turns flip))) (element_record (Placement name x y turns flip)) ≡ None
allowed_once limits count weight m name x y turns flip absolute h = none_wrong _ _ _ _ _ h _ (ap is_on_grid (landed m.relative m.placement (record { x = x; y = y }) absolute) ∙ h.inside)

length-record : (name : List ℕ) (x y : ℤ) (turns : Turns) (flip : Bool) → HasPoint (Placement name x y turns flip) → length (element_bytes (Placement name x y turns flip)) ≤ 64 * weight_of (Placement name x y turns flip)
length-record name x y turns flip h = omega (arith, length-append (string_bytes name) (place_bytes x y), length-string name, length-place x y)

inner_record : (name : List ℕ) (x y : ℤ) (turns : Turns) (flip : Bool) → IsSound (Placement name x y turns flip) → weight_of (Placement name x y turns flip) ≤ 2 ^ 30 → Inner (element_record (Placement name x y turns flip)) (element_bytes (Placement name x y turns flip))
inner_record name x y turns flip h light =
    record { inner = λ e. cc; small = omega arith; rest = _; is = refl; after = record { from = _; is = refl; spelled = placement_spelled name x y turns flip h.fits h.inside } }

pub of_placement : (name : List ℕ) (x y : ℤ) (turns : Turns) (flip : Bool) → OfElement (Placement name x y turns flip)
of_placement name x y turns flip = record {
  kind = kinds.Placement (Quarters (turn_count turns)) flip;
  is = refl;
  once = refl;
  drawn = drawn_again name x y turns flip;
  allowed = λ limits count weight m. allowed_once limits count weight m name x y turns flip;
  inner = inner_record name x y turns flip;
  fits = element_fits name x y turns flip;
  short = length-record name x y turns flip;
}
