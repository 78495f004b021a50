-- Each record's bytes are compared with the canonical ones of what it draws.
use Rattle.std.proofs.Common.{◌≡◌, ◌↔◌, ℕ, ◌≤◌, ◌^◌, false, List, [], ◌∷◌, ◌++◌, inl, inr, refl, sym, ap, subst, ◌∙◌, arith}
use Rattle.std.specs.List.{AllByRecursion}
use Rattle.oas_num.specs.Grammar.{IsSuch}
use Rattle.oas_num.specs.Style.{Any, Shortest}
use Rattle.oas_record.specs.declared.records.Record.{Record}
use Rattle.oas_record.specs.declared.records.Record.TheVariants as record_of
use Rattle.oas_record.specs.declared.references.CellRef.TheVariants as cell
use Rattle.oas_record.specs.Records.{record_in, IsInner}
use Rattle.oas_record.specs.Laws.RecordLaws.{PrefixFree-record, IsWithin-record}
use Rattle.oas_elements.specs.declared.element.Element.{Element}
use Rattle.oas_elements.specs.declared.element.Element.TheVariants.{Placement}
use Rattle.oas_elements.specs.declared.limits.Limits.{Limits}
use Rattle.oas_elements.specs.declared.profile.Profile.{Profile}
use Rattle.oas_elements.specs.Same.{normal, IsNormal}
use Rattle.oas_elements.specs.Laws.SameLaws.{weight_of-normal-le}
use Rattle.oas_elements.specs.Sound.{IsSound}
use Rattle.oas_elements.specs.Weight.{weight_of, lacks_points}
use Rattle.oas_file.specs.Drawn.{Drawn}
use Rattle.oas_file.specs.Drawn.TheVariants.{Named, PlacementBy, TextBy}
use Rattle.oas_file.specs.Drawing.{elements_at}
use Rattle.oas_file.specs.Stands as stands
use Rattle.oas_form.specs.Bytes.{element_bytes}
use Rattle.oas_form.specs.Records.{element_record}
use Rattle.oas_form.specs.Judging.{Entry, entry_records, Judge, IsDrawnInOrder, IsInOrder, judge_drawn, judge_after, judge_of, AreInOrder, MatchesDrawn, Matches, AllMatch}
use Rattle.oas_form.proofs.FieldsGiven.{GivenFieldsFit}
use Rattle.oas_form.proofs.AllGiven.{after_fits}
use Rattle.oas_form.proofs.DrawsSound.{IsSoundDrawn, draws_sound}
use Rattle.oas_form.proofs.DrawnSound.{drawn_sound}
use Rattle.oas_form.proofs.Existence.{normal_sound}
use Rattle.oas_form.proofs.JudgeRecords.{cell_is_bytes, element_is_bytes}
use Rattle.oas_form.proofs.AllKinds.{of_element, plain_of}
use Rattle.oas_form.proofs.MeantLemmas.{onto, IsAbsolute, draws, absolute_element}
use Rattle.oas_form.proofs.ElementSpelling.{spelled}

-- ---- records by what they draw

module _ (profile : Profile) where
  -- a record that isn't a CELL
  pub record IsDrawing (r : Record) : Type 0 where
    pub matched : (j : Judge) (bytes : List ℕ) (ds : List Drawn) → Matches profile j r bytes ds → MatchesDrawn profile j bytes ds
    pub matches : (j : Judge) (bytes : List ℕ) (ds : List Drawn) → MatchesDrawn profile j bytes ds → Matches profile j r bytes ds
    pub after : (j : Judge) (ds : List Drawn) → judge_after j r ds ≡ judge_drawn j ds
    pub ordered : (j : Judge) (ds : List Drawn) → IsDrawnInOrder profile j ds → IsInOrder profile j r ds

  pub by_kind : (P : Record → Type 0) → ((name : List ℕ) → P (record_of.Cell (cell.Name name))) → ((number : ℕ) → P (record_of.Cell (cell.Number number))) →
      ((r : Record) → IsDrawing r → P r) → (r : Record) → P r
  by_kind P named numbered other (record_of.Cell (cell.Name name)) = named name
  by_kind P named numbered other (record_of.Cell (cell.Number number)) = numbered number
  by_kind P named numbered other r = other r (record { matched = λ j bytes ds h. h; matches = λ j bytes ds h. h; after = λ j ds. refl; ordered = λ j ds h. h })

  -- the record of an element matches by what it draws
  element_matches : (e : Element) (j : Judge) (bytes : List ℕ) (ds : List Drawn) → (bytes ≡ element_bytes e) → IsInOrder profile j (element_record e) ds → ds ≡ Named e ∷ [] →
      Matches profile j (element_record e) bytes ds
  element_matches e j bytes ds same order one = wanted e (subst (MatchesDrawn profile j bytes) (sym one) (let h = subst (IsDrawnInOrder profile j) one (drawn e order) in (same, h.0, h.1))) where
    drawn : (f : Element) → IsInOrder profile j (element_record f) ds → IsDrawnInOrder profile j ds
    drawn (Placement name x y turns flip) h = h
    drawn f h = h

    wanted : (f : Element) → MatchesDrawn profile j bytes ds → Matches profile j (element_record f) bytes ds
    wanted (Placement name x y turns flip) h = h
    wanted f h = h

  -- ---- one record

  -- a record as it was read, which is allowed after those before it, where coordinates are absolute
  record IsReadAfter (limits : Limits) (before : List Record) (r : Record) (bytes : List ℕ) : Type 0 where
    given : AllByRecursion GivenFieldsFit (r ∷ before)
    absolute : IsAbsolute before
    allowed : stands.Allowed limits (r ∷ before)
    spelled : IsSuch IsInner (record_in Any false) r bytes

  -- what it draws, if it is one element, can be spelled
  record IsOne (e : Element) : Type 0 where
    sound : IsSound e
    light : weight_of e ≤ 2 ^ 30

  one_drawn : (limits : Limits) (before : List Record) (r : Record) (bytes : List ℕ) (e : Element) → IsReadAfter limits before r bytes → elements_at r before ≡ Named e ∷ [] → IsOne e
  one_drawn limits before r bytes e h one =
      let d = draws_sound limits r before h.given (drawn_sound limits before h.given.1 h.allowed.0).few h.allowed.1 in
      let s = (subst (AllByRecursion IsSoundDrawn) one d.sound).0 in
      record { sound = record { points = s.fit.points; inside = s.fit.inside; fits = s.fields }; light = omega (arith, d.light (Named e) one, limits.light) }

  -- if it is spelled in the shortest style and in order, it matches
  abbrev ShortestMatches : Limits → List Record → List ℕ → Record → Type 0
  ShortestMatches limits before bytes r = IsReadAfter limits before r bytes → record_in Shortest false r bytes → IsInOrder profile (judge_of before) r (elements_at r before) →
      Matches profile (judge_of before) r bytes (elements_at r before)

  name_matches : (limits : Limits) (before : List Record) (bytes name : List ℕ) (r : Record) → record_of.Cell (cell.Name name) ≡ r → ShortestMatches limits before bytes r
  name_matches limits before bytes name r is = subst (ShortestMatches limits before bytes) is (λ h s order. ((cell_is_bytes name bytes h.given.0.name).0 s, order))

  drawn_matches : (limits : Limits) (before : List Record) (bytes : List ℕ) (e : Element) (r : Record) → element_record e ≡ r → lacks_points e ≡ false → ShortestMatches limits before bytes r
  drawn_matches limits before bytes e r is points = subst (ShortestMatches limits before bytes) is (λ h s order.
      let one = draws e before h.absolute points in
      let o = one_drawn limits before (element_record e) bytes e h one in
      element_matches e (judge_of before) bytes (elements_at (element_record e) before) ((element_is_bytes e bytes o.sound o.light).0 s) order one)

  shortest_matches : (limits : Limits) (before : List Record) (r : Record) (bytes : List ℕ) → ShortestMatches limits before bytes r
  shortest_matches limits before r bytes h s order =
      elim (plain_of false r bytes h.spelled.holds s) [
        | inl named ↦ name_matches limits before bytes named.0 r named.1 h s order
        | inr drawn ↦ drawn_matches limits before bytes drawn.element r drawn.is drawn.points h s order
      ]

  -- and back
  record IsShortestInOrder (before : List Record) (r : Record) (bytes : List ℕ) : Type 0 where
    shortest : record_in Shortest false r bytes
    order : IsInOrder profile (judge_of before) r (elements_at r before)

  matched_drawn : (limits : Limits) (before : List Record) (r : Record) (bytes : List ℕ) → IsReadAfter limits before r bytes → IsDrawing r → (ds : List Drawn) → elements_at r before ≡ ds →
      MatchesDrawn profile (judge_of before) bytes ds → IsShortestInOrder before r bytes
  matched_drawn limits before r bytes h k [] is m = absurd m
  matched_drawn limits before r bytes h k (Named e ∷ []) is m =
      let o = one_drawn limits before r bytes e h is in
      let canonical = (spelled (element_record e) (element_bytes e) ((of_element e).inner o.sound o.light)).spelled in
      let same : element_record e ≡ r = ((PrefixFree-record Any false).one (element_record e) r (element_bytes e) bytes [] []
      ((IsWithin-record false).within (element_record e) (element_bytes e) canonical) h.spelled.spelled (ap (λ (b : List ℕ). b ++ []) (sym m.0))).1 in
      record {
        shortest = subst (λ (p : Record × List ℕ). record_in Shortest false p.0 p.1) (λ i. (same i, sym m.0 i)) canonical;
        order = k.ordered (judge_of before) (elements_at r before) (subst (IsDrawnInOrder profile (judge_of before)) (sym is) (m.1, m.2));
      }
  matched_drawn limits before r bytes h k (Named e ∷ f ∷ ds) is m = absurd m
  matched_drawn limits before r bytes h k (PlacementBy number x y turns flip ∷ ds) is m = absurd m
  matched_drawn limits before r bytes h k (TextBy number textlayer texttype x y ∷ ds) is m = absurd m

  matched_shortest : (limits : Limits) (before : List Record) (r : Record) (bytes : List ℕ) → IsReadAfter limits before r bytes →
      Matches profile (judge_of before) r bytes (elements_at r before) → IsShortestInOrder before r bytes
  matched_shortest limits before r bytes =
      by_kind (λ r. IsReadAfter limits before r bytes → Matches profile (judge_of before) r bytes (elements_at r before) → IsShortestInOrder before r bytes)
      (λ name h m. record { shortest = (cell_is_bytes name bytes h.given.0.name).1 m.0; order = m.1 }) (λ number h m. absurd m)
      (λ r k h m. matched_drawn limits before r bytes h k (elements_at r before) refl (k.matched (judge_of before) bytes (elements_at r before) m)) r

  -- coordinates stay absolute
  absolute_after : (before : List Record) (r : Record) (bytes : List ℕ) → IsInner r → IsAbsolute before → record_in Shortest false r bytes → IsAbsolute (r ∷ before)
  absolute_after before r bytes inner absolute s =
      elim (plain_of false r bytes inner s) [
        | inl named ↦ subst (λ (r : Record). IsAbsolute (r ∷ before)) named.1 refl
        | inr drawn ↦ subst (λ (r : Record). IsAbsolute (r ∷ before)) drawn.is (absolute_element drawn.element before ∙ absolute)
      ]

  -- ---- all records

  order_front : (rs before : List Record) → AreInOrder profile (onto rs before) → AreInOrder profile before
  order_front [] before h = h
  order_front (r ∷ rs) before h = (order_front rs (r ∷ before) h).0

  allowed_prefix : (limits : Limits) (rs before : List Record) → stands.Allowed limits (onto rs before) → stands.Allowed limits before
  allowed_prefix limits [] before h = h
  allowed_prefix limits (r ∷ rs) before h = (allowed_prefix limits rs (r ∷ before) h).0

  pub all_match : (limits : Limits) (before : List Record) (es : List Entry) → AllByRecursion GivenFieldsFit before → IsAbsolute before →
      AllByRecursion (λ e. IsSuch IsInner (record_in Any false) e.0 e.1) es → stands.Allowed limits (onto (entry_records es) before) →
      AllByRecursion (λ e. record_in Shortest false e.0 e.1) es → AreInOrder profile (onto (entry_records es) before) → AllMatch profile before es
  all_match limits before [] given absolute each allowed shortest order = tt
  all_match limits before (e ∷ es) given absolute each allowed shortest order =
      let fits : AllByRecursion GivenFieldsFit (e.0 ∷ before) = (after_fits false e.0 _ each.0.spelled.parts.second, given) in
      let read : IsReadAfter limits before e.0 e.1 = record { given = fits; absolute = absolute; allowed = allowed_prefix limits (entry_records es) (e.0 ∷ before) allowed; spelled = each.0 } in (
        shortest_matches limits before e.0 e.1 read shortest.0 (order_front (entry_records es) (e.0 ∷ before) order).1,
        all_match limits (e.0 ∷ before) es fits (absolute_after before e.0 e.1 each.0.holds absolute shortest.0) each.1 allowed shortest.1 order,
      )

  pub record AreShortestInOrder (before : List Record) (es : List Entry) : Type 0 where
    pub shortest : AllByRecursion (λ e. record_in Shortest false e.0 e.1) es
    pub order : AreInOrder profile (onto (entry_records es) before)
    pub given : AllByRecursion GivenFieldsFit (onto (entry_records es) before)
    pub absolute : IsAbsolute (onto (entry_records es) before)

  pub all_shortest : (limits : Limits) (before : List Record) (es : List Entry) → AllByRecursion GivenFieldsFit before → IsAbsolute before →
      AllByRecursion (λ e. IsSuch IsInner (record_in Any false) e.0 e.1) es → stands.Allowed limits (onto (entry_records es) before) → AreInOrder profile before →
      AllMatch profile before es → AreShortestInOrder before es
  all_shortest limits before [] given absolute each allowed order m = record { shortest = tt; order = order; given = given; absolute = absolute }
  all_shortest limits before (e ∷ es) given absolute each allowed order m =
      let fits : AllByRecursion GivenFieldsFit (e.0 ∷ before) = (after_fits false e.0 _ each.0.spelled.parts.second, given) in
      let read : IsReadAfter limits before e.0 e.1 = record { given = fits; absolute = absolute; allowed = allowed_prefix limits (entry_records es) (e.0 ∷ before) allowed; spelled = each.0 } in
      let one = matched_shortest limits before e.0 e.1 read m.0 in
      let more = all_shortest limits (e.0 ∷ before) es fits (absolute_after before e.0 e.1 each.0.holds absolute one.shortest) each.1 allowed (order, one.order) m.1 in
      record { shortest = (one.shortest, more.shortest); order = more.order; given = more.given; absolute = more.absolute }

  -- ---- the kept form

  kept_one : (limits : Limits) (before : List Record) (r : Record) (bytes : List ℕ) (e : Element) → IsReadAfter limits before r bytes → elements_at r before ≡ Named e ∷ [] →
      (bytes ≡ element_bytes (normal profile e)) ↔ ((bytes ≡ element_bytes e) × IsNormal profile e)
  kept_one limits before r bytes e h one = (
    λ same.
        let o = one_drawn limits before r bytes e h one in
        let sound = normal_sound profile e o.sound in
        let canonical = (spelled (element_record (normal profile e)) (element_bytes (normal profile e))
        ((of_element (normal profile e)).inner sound (omega (arith, o.light, weight_of-normal-le profile e)))).spelled in
        let is : element_record (normal profile e) ≡ r =
        ((PrefixFree-record Any false).one (element_record (normal profile e)) r (element_bytes (normal profile e)) bytes [] []
        ((IsWithin-record false).within (element_record (normal profile e)) (element_bytes (normal profile e)) canonical) h.spelled.spelled (ap (λ (b : List ℕ). b ++ []) (sym same))).1 in
        let drawn : Named (normal profile e) ∷ [] ≡ Named e ∷ [] = sym (draws (normal profile e) before h.absolute sound.points) ∙ ap (λ (s : Record). elements_at s before) is ∙ one in
        let stays : normal profile e ≡ e = named_is (normal profile e) e drawn in
        (same ∙ ap element_bytes stays, stays),
    λ p. p.0 ∙ ap element_bytes (sym p.1),
  ) where
    named_is : (a b : Element) → ◌≡◌ {A = List Drawn} (Named a ∷ []) (Named b ∷ []) → a ≡ b
    named_is a b e = cc

  pub kept_after : (limits : Limits) (before : List Record) (es : List Entry) (x : Entry) (e : Element) → AllByRecursion GivenFieldsFit before → IsAbsolute before →
      AllByRecursion (λ e. IsSuch IsInner (record_in Any false) e.0 e.1) es → IsSuch IsInner (record_in Any false) x.0 x.1
      → stands.Allowed limits (x.0 ∷ onto (entry_records es) before) → AreInOrder profile before → AllMatch profile before es → elements_at x.0 (onto (entry_records es) before) ≡ Named e ∷ []
      → (x.1 ≡ element_bytes (normal profile e)) ↔ ((x.1 ≡ element_bytes e) × IsNormal profile e)
  kept_after limits before es x e given absolute each here allowed order m one =
      let all = all_shortest limits before es given absolute each allowed.0 order m in
      kept_one limits (onto (entry_records es) before) x.0 x.1 e
      (record { given = (after_fits false x.0 _ here.spelled.parts.second, all.given); absolute = all.absolute; allowed = allowed; spelled = here }) one
