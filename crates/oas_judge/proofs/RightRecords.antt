-- A record that matches in a file that is canonical so far is a CELL by its name, or gives an element in its kept form.
use Rattle.std.proofs.Common.{◌≡◌, ℕ, ◌+◌, Bool, true, false, List, [], ◌∷◌, ◌++◌, length, reverse, Option, None, Some, is_some, inl, inr, refl, sym, ap, subst, ◌∙◌, arith}
use Rattle.std.specs.Prelude.{nat_lt}
use Rattle.std.specs.List.{AllByRecursion}
use Rattle.std.proofs.lemmas.Bool.{ltb-false}
use Rattle.oas_num.specs.Grammar.{IsSuch}
use Rattle.oas_num.specs.Style.{Any, Shortest}
use Rattle.oas_num.specs.declared.refusals.Why.TheVariants.{TooHeavy}
use Rattle.oas_record.specs.declared.records.Record.{Record}
use Rattle.oas_record.specs.declared.records.Record.TheVariants as record_of
use Rattle.oas_record.specs.declared.references.CellRef.TheVariants as cell
use Rattle.oas_record.specs.Records.{record_in, IsInner}
use Rattle.oas_elements.specs.declared.element.Element.{Element}
use Rattle.oas_elements.specs.declared.element.Element.TheVariants.{Placement}
use Rattle.oas_elements.specs.declared.limits.Limits.{Limits}
use Rattle.oas_elements.specs.declared.profile.Profile.{Profile}
use Rattle.oas_elements.specs.Same.{IsNormal}
use Rattle.oas_elements.specs.Weight.{lacks_points}
use Rattle.oas_writing.specs.Drawn.{Drawn}
use Rattle.oas_writing.specs.Drawn.TheVariants.{Named}
use Rattle.oas_writing.specs.Drawing.{elements_at}
use Rattle.oas_writing.specs.Reasons.{first_of}
use Rattle.oas_writing.specs.Stands as stands
use Rattle.oas_writing.specs.Stands.{refused_after, weight_so_far_of}
use Rattle.oas_writing.specs.Records.{element_record}
use Rattle.oas_writing.specs.Judging.{Entry, entry_records, Judge, judge_of, Matches, AllMatch, AreRead}
use Rattle.oas_writing.proofs.FieldsGiven.{GivenFieldsFit}
use Rattle.oas_writing.proofs.DrawsSound.{IsSoundDrawn, draws_sound}
use Rattle.oas_writing.proofs.DrawnSound.{drawn_sound}
use Rattle.oas_writing.proofs.JudgeBytes.{bytes_go_on}
use Rattle.oas_writing.proofs.JudgeMatches.{all_shortest, AreShortestInOrder}
use Rattle.oas_writing.proofs.JudgeRecords.{all_more, records_more}
use Rattle.oas_writing.proofs.KindLemmas.{IsDrawn}
use Rattle.oas_writing.proofs.AllKinds.{plain_of}
use Rattle.oas_writing.proofs.MeantLemmas.{reverse-is, IsAbsolute, draws}
use Rattle.oas_judge.specs.Candidates.{IsShort, IsDrawable}
use Rattle.oas_judge.specs.Own.{own_drawn}
use Rattle.oas_judge.proofs.OwnLemmas.{own_draws, element_gives}

-- what a record that matches is
pub data IsRight (profile : Profile) (r : Record) : Type 0 where
  RightCell : (name : List ℕ) → r ≡ record_of.Cell (cell.Name name) → IsShort name → IsRight profile r
  RightElement : (e : Element) → own_drawn r ≡ Some (Named e) → IsDrawable e → IsNormal profile e → IsRight profile r

-- ---- entries that match

-- those before the last were read too
pub read_front : {limits : Limits} (entries : List Entry) (x : Entry) → AreRead limits (entries ++ x ∷ []) → AreRead limits entries
read_front {limits = limits} entries x read = record {
  each = ((all_more (λ (e : Entry). IsSuch IsInner (record_in Any false) e.0 e.1) entries x).0 read.each).0;
  allowed = (subst (stands.Allowed limits) (records_more entries x) read.allowed).0;
}

module _ (limits : Limits) (profile : Profile) where
  shortest : (entries : List Entry) → AreRead limits entries → AllMatch profile [] entries → AreShortestInOrder profile [] entries
  shortest entries read m = all_shortest profile limits [] entries tt refl read.each (subst (stands.Allowed limits) (reverse-is (entry_records entries)) read.allowed) tt m

  -- coordinates are absolute after them
  pub absolute_so_far : (entries : List Entry) → AreRead limits entries → AllMatch profile [] entries → IsAbsolute (reverse (entry_records entries))
  absolute_so_far entries read m = subst (λ (rs : List Record). IsAbsolute rs) (sym (reverse-is (entry_records entries))) (shortest entries read m).absolute

-- ---- the name of a CELL

light_when : (b : Bool) → first_of ((b, TooHeavy) ∷ []) ≡ None → b ≡ false
light_when true h = cc
light_when false h = refl

-- that is allowed is short
short_name : (limits : Limits) (before : List Record) (name : List ℕ) → refused_after limits before (record_of.Cell (cell.Name name)) ≡ None → IsShort name
short_name limits before name none =
    let light : nat_lt limits.weight (weight_so_far_of before + (1 + length name)) ≡ false = light_when _ none in
    let few = ltb-false limits.weight (weight_so_far_of before + (1 + length name)) light in
    omega (arith, few, limits.light)

-- ---- an element

-- the record of an element gives it
record_gives : (before : List Record) (e : Element) → IsAbsolute before → lacks_points e ≡ false → own_drawn (element_record e) ≡ Some (Named e)
record_gives before e absolute points = by (own_drawn (element_record e)) refl (element_gives e) where
  named : (d : Drawn) → ◌≡◌ {A = List Drawn} (d ∷ []) (Named e ∷ []) → d ≡ Named e
  named d same = cc

  by : (o : Option Drawn) → own_drawn (element_record e) ≡ o → is_some o ≡ true → own_drawn (element_record e) ≡ Some (Named e)
  by None is some = absurd cc
  by (Some d) is some = is ∙ ap Some (named d (sym (own_draws before (element_record e) d absolute is) ∙ draws e before absolute points))

-- it is in its kept form
matched_normal : (profile : Profile) (j : Judge) (bytes : List ℕ) (e : Element) → Matches profile j (element_record e) bytes (Named e ∷ []) → IsNormal profile e
matched_normal profile j bytes (Placement name x y turns flip) m = m.1
matched_normal profile j bytes e m = m.1

-- ---- the record

module _ (limits : Limits) (profile : Profile) (entries : List Entry) (x : Entry) (read : AreRead limits (entries ++ x ∷ [])) (m : AllMatch profile [] entries)
    (here : Matches profile (judge_of (reverse (entry_records entries))) x.0 x.1 (elements_at x.0 (reverse (entry_records entries)))) where
  all : AreShortestInOrder profile [] (entries ++ x ∷ [])
  all = shortest limits profile (entries ++ x ∷ []) read ((bytes_go_on profile entries x).1 (m, here))

  -- newest first
  given : AllByRecursion GivenFieldsFit (x.0 ∷ reverse (entry_records entries))
  given = subst (AllByRecursion GivenFieldsFit) (sym (reverse-is (entry_records (entries ++ x ∷ []))) ∙ records_more entries x) all.given

  allowed : stands.Allowed limits (x.0 ∷ reverse (entry_records entries))
  allowed = subst (stands.Allowed limits) (records_more entries x) read.allowed

  absolute : IsAbsolute (reverse (entry_records entries))
  absolute = absolute_so_far limits profile entries (read_front entries x read) m

  right_cell : (name : List ℕ) → record_of.Cell (cell.Name name) ≡ x.0 → IsRight profile x.0
  right_cell name is = RightCell name (sym is) (short_name limits (reverse (entry_records entries)) name
      (subst (λ (r : Record). refused_after limits (reverse (entry_records entries)) r ≡ None) (sym is) allowed.1))

  right_element : IsDrawn x.0 → IsRight profile x.0
  right_element drawn =
      let e : Element = drawn.element in
      let one : elements_at x.0 (reverse (entry_records entries)) ≡ Named drawn.element ∷ [] =
      subst (λ (r : Record). elements_at r (reverse (entry_records entries)) ≡ Named drawn.element ∷ []) drawn.is (draws drawn.element (reverse (entry_records entries)) absolute drawn.points) in
      let d = draws_sound limits x.0 (reverse (entry_records entries)) given (drawn_sound limits (reverse (entry_records entries)) given.1 allowed.0).few allowed.1 in
      let s = (subst (AllByRecursion IsSoundDrawn) one d.sound).0 in
      let there : Matches profile (judge_of (reverse (entry_records entries))) (element_record drawn.element) x.1 (Named drawn.element ∷ []) =
      subst (λ (p : Record × List Drawn). Matches profile (judge_of (reverse (entry_records entries))) p.0 x.1 p.1) (λ i. (sym drawn.is i, one i)) here in
      RightElement drawn.element (subst (λ (r : Record). own_drawn r ≡ Some (Named drawn.element)) drawn.is (record_gives (reverse (entry_records entries)) drawn.element absolute drawn.points))
      (record { points = s.fit.points; inside = s.fit.inside; light = omega (arith, d.light (Named drawn.element) one, limits.light) })
      (matched_normal profile (judge_of (reverse (entry_records entries))) x.1 drawn.element there)

  pub right_next : IsRight profile x.0
  right_next =
      let last = ((all_more (λ (e : Entry). record_in Shortest false e.0 e.1) entries x).0 all.shortest).1 in
      let inner = ((all_more (λ (e : Entry). IsSuch IsInner (record_in Any false) e.0 e.1) entries x).0 read.each).1 in
      elim (plain_of false x.0 x.1 inner.holds last) [ inl named ↦ right_cell named.0 named.1 | inr drawn ↦ right_element drawn ]
