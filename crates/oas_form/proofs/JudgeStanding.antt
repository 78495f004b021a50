-- What a judge in code represents, and how it goes on.
use Rattle.std.proofs.Common.{◌≡◌, ◌↔◌, ℕ, Bool, IsTrue, List, [], ◌∷◌, ◌++◌, reverse, Option, None, Some, refl, sym, ap, subst, ◌∙◌, true≢false}
use Rattle.oas_record.specs.declared.records.Record.{Record}
use Rattle.oas_record.specs.declared.records.Record.TheVariants as record_of
use Rattle.oas_record.specs.declared.references.CellRef.TheVariants as cell
use Rattle.oas_elements.specs.declared.element.Element.{Element}
use Rattle.oas_elements.specs.declared.limits.Limits.{Limits}
use Rattle.oas_elements.specs.declared.profile.Profile.{Profile}
use Rattle.oas_elements.specs.Same.{normal, IsNormal}
use Rattle.oas_file.specs.Drawn.TheVariants.{Named}
use Rattle.oas_file.specs.Drawing.{elements_at}
use Rattle.oas_form.specs.Bytes.{element_bytes}
use Rattle.oas_form.specs.Judging.{Entry, entry_records, Judge, IsAbove, IsNotBelow, judge_drawn, judge_of, MatchesDrawn, AllMatch, AreRead, JudgeRepresents, JudgeStandsFirst}
use Rattle.oas_form.specs.Judging.{JudgeDraws, JudgeOpens, JudgeRefuses}
use Rattle.oas_form.proofs.JudgeRecords.{judge_steps}
use Rattle.oas_form.proofs.JudgeMatches.{IsDrawing, by_kind}
use Rattle.oas_form.proofs.JudgeBytes.{bytes_go_on, kept_bytes}

pub judge_stands_first : JudgeStandsFirst
judge_stands_first profile = record { holds_is = (λ t. tt, λ m. refl); name_is = λ t. refl; element_is = λ t. refl }

-- a record that draws one element is no CELL
no_cell : (profile : Profile) (e : Element) (before : List Record) (r : Record) → elements_at r before ≡ Named e ∷ [] → IsDrawing profile r
no_cell profile e before r one =
    by_kind profile (λ r. elements_at r before ≡ Named e ∷ [] → IsDrawing profile r) (λ name one. let no : ⊥ = cc in absurd no) (λ number one. let no : ⊥ = cc in absurd no) (λ r k one. k) r one

pub judge_draws : JudgeDraws
judge_draws limits profile entries x e holds now name element read one stands step =
    let before : List Record = reverse (entry_records entries) in
    let k = no_cell profile e (reverse (entry_records entries)) x.0 one in
    let j : Judge = judge_of (reverse (entry_records entries)) in
    let more = bytes_go_on profile entries x in
    let after : judge_of (reverse (entry_records (entries ++ x ∷ []))) ≡ record { name = (judge_of (reverse (entry_records entries))).name; element = Some e } =
    judge_steps entries x ∙ k.after (judge_of (reverse (entry_records entries))) (elements_at x.0 (reverse (entry_records entries)))
    ∙ ap (judge_drawn (judge_of (reverse (entry_records entries)))) one in
    let kept : AllMatch profile [] entries → (x.1 ≡ element_bytes (normal profile e)) ↔
    ((x.1 ≡ element_bytes e) × IsNormal profile e) = λ m. kept_bytes limits profile entries x e read.each read.allowed m one in
    let told : IsTrue now → AllMatch profile [] entries = λ t. stands.holds_is.0 (step.0 t).0 in
    let is_kept : IsTrue now → IsNormal profile e = λ t. ((kept (told t)).0 (sym (step.0 t).1)).1 in
    record {
      holds_is = (
        λ t.
            let s = step.0 t in
            let m = told t in
            let b = (kept m).0 (sym s.1) in
            let above : IsNotBelow (judge_of (reverse (entry_records entries))).element e = subst (λ (f : Element). IsNotBelow (judge_of (reverse (entry_records entries))).element f) b.1
            (subst (λ (o : Option Element). IsNotBelow o (normal profile e)) (stands.element_is s.0) s.2) in
            more.1 (
              m,
              k.matches (judge_of (reverse (entry_records entries))) x.1 (elements_at x.0 (reverse (entry_records entries)))
                  (subst (MatchesDrawn profile (judge_of (reverse (entry_records entries))) x.1) (sym one) (b.0, b.1, above)),
            ),
        λ all.
            let both = more.0 all in
            let m = subst (MatchesDrawn profile (judge_of (reverse (entry_records entries))) x.1) one
            (k.matched (judge_of (reverse (entry_records entries))) x.1 (elements_at x.0 (reverse (entry_records entries))) both.1) in
            let t : IsTrue holds = stands.holds_is.1 both.0 in
            let above : IsNotBelow element (normal profile e) = subst (λ (f : Element). IsNotBelow element f) (sym m.1)
            (subst (λ (o : Option Element). IsNotBelow o e) (sym (stands.element_is t)) m.2) in
            step.1 (t, sym ((kept both.0).1 (m.0, m.1)), above),
      );
      name_is = λ t. stands.name_is (step.0 t).0 ∙ sym (ap (λ (i : Judge). i.name) after);
      element_is = λ t. ap Some (is_kept t) ∙ sym (ap (λ (i : Judge). i.element) after);
    }

pub judge_opens : JudgeOpens
judge_opens profile entries opened bytes holds now name element stands step =
    let x : Entry = (record_of.Cell (cell.Name opened), bytes) in
    let more = bytes_go_on profile entries (record_of.Cell (cell.Name opened), bytes) in
    let after : judge_of (reverse (entry_records (entries ++ (record_of.Cell (cell.Name opened), bytes) ∷ []))) ≡ record { name = Some opened; element = None } = judge_steps entries
    (record_of.Cell (cell.Name opened), bytes) in
    record {
      holds_is = (
        λ t. let s = step.0 t in more.1 (stands.holds_is.0 s.0, (sym s.1, subst (λ (o : Option (List ℕ)). IsAbove o opened) (stands.name_is s.0) s.2)),
        λ all.
            let both = more.0 all in
            let t : IsTrue holds = stands.holds_is.1 both.0 in
            step.1 (t, sym both.1.0, subst (λ (o : Option (List ℕ)). IsAbove o opened) (sym (stands.name_is t)) both.1.1),
      );
      name_is = λ t. sym (ap (λ (i : Judge). i.name) after);
      element_is = λ t. sym (ap (λ (i : Judge). i.element) after);
    }

pub judge_refuses : JudgeRefuses
judge_refuses profile entries x holds name other element last stands none = record {
  holds_is = (λ t. absurd (true≢false (sym t)), λ all. absurd (none ((bytes_go_on profile entries x).0 all).1));
  name_is = λ t. absurd (true≢false (sym t));
  element_is = λ t. absurd (true≢false (sym t));
}

-- where the element that it was given is the kept form of the one that was drawn
pub draws_kept : (holds now : Bool) (name : Option (List ℕ)) (element : Option Element) (kept : Element) (bytes : List ℕ) →
    IsTrue now ↔ (IsTrue holds × (element_bytes kept ≡ bytes) × IsNotBelow element kept)
    → (limits : Limits) (profile : Profile) (entries : List Entry) (r : Record) (e : Element) → AreRead limits (entries ++ (r, bytes) ∷ []) →
    elements_at r (reverse (entry_records entries)) ≡ Named e ∷ [] → kept ≡ normal profile e
    → JudgeRepresents profile holds name element entries → JudgeRepresents profile now name (Some kept) (entries ++ (r, bytes) ∷ [])
draws_kept holds now name element kept bytes step limits profile entries r e read one is stands =
    subst (λ (f : Element). JudgeRepresents profile now name (Some f) (entries ++ (r, bytes) ∷ [])) (sym is)
    (judge_draws limits profile entries (r, bytes) e holds now name element read one stands
    (subst (λ (f : Element). IsTrue now ↔ (IsTrue holds × (element_bytes f ≡ bytes) × IsNotBelow element f)) is step))
