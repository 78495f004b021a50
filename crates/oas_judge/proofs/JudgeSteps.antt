-- How a judge of a file goes on with one entry.
use Rattle.std.proofs.Common.{◌≡◌, ◌↔◌, ℕ, Bool, true, false, IsTrue, Option, None, Some, IfSome, List, [], ◌∷◌, ◌++◌, reverse, refl, sym, subst, ◌∙◌, true≢false}
use Rattle.std.specs.Prelude.{◌&&◌, take, unwrap_or}
use Rattle.std.specs.List.{AllByRecursion}
use Rattle.oas_record.specs.declared.heads.Head.{Head}
use Rattle.oas_record.specs.declared.records.Record.{Record}
use Rattle.oas_record.specs.declared.records.Record.TheVariants as record_of
use Rattle.oas_record.specs.declared.references.CellRef.TheVariants.{Name as ByName}
use Rattle.oas_num.specs.Style.{Shortest}
use Rattle.oas_record.specs.declared.rectangles.Rectangle.{Rectangle as OneRectangle}
use Rattle.oas_record.specs.Records.{record_in}
use Rattle.oas_peek.specs.declared.rectangles.PeekedRectangle.{PeekedRectangle}
use Rattle.oas_peek.specs.Peeked.{IsPeeked}
use Rattle.oas_peek.specs.declared.named.PeekedNamed.{PeekedNamed}
use Rattle.oas_peek.specs.declared.named.NamedOnce.{NamedOnce}
use Rattle.oas_peek.specs.declared.named.NamedOnce.TheVariants as once
use Rattle.oas_peek.specs.Named.{IsPeekedNamed, named_record}
use Rattle.oas_elements.specs.declared.element.Element.{Element}
use Rattle.oas_elements.specs.declared.element.Element.TheVariants.{Placement, Text, Rectangle}
use Rattle.oas_elements.specs.Same.{normal}
use Rattle.oas_elements.specs.Sound.{IsSound, Fits}
use Rattle.oas_writing.specs.Bytes.{element_bytes}
use Rattle.oas_writing.specs.Records.{element_record}
use Rattle.oas_writing.proofs.JudgeRecords.{element_is_bytes}
use Rattle.oas_judge.specs.Peeked.{IsSpelledBy, IsNamedBy}
use Rattle.oas_judge.specs.Candidates.{IsDrawable}
use Rattle.oas_elements.specs.declared.limits.Limits.{Limits}
use Rattle.oas_elements.specs.declared.profile.Profile.{Profile}
use Rattle.oas_writing.specs.Drawn.TheVariants.{Named}
use Rattle.oas_writing.specs.Drawing.{elements_at}
use Rattle.oas_writing.specs.Gathering.{inner_in}
use Rattle.oas_writing.specs.FormJudge.{FormJudge}
use Rattle.oas_writing.specs.Judging.{Entry, entry_records, AllMatch, AreRead, Stands, GoesOn as FormGoesOn, GoesOnDrawing, GoesOnRefusing}
use Rattle.oas_writing.proofs.JudgeBytes.{bytes_go_on}
use Rattle.oas_judge.specs.declared.candidates.Candidate.{Candidate}
use Rattle.oas_judge.specs.declared.candidates.Candidate.TheVariants as candidates
use Rattle.oas_judge.specs.declared.judge.FileJudge.{FileJudge}
use Rattle.oas_judge.specs.FileJudges.{holds, IsJudging, AreEntries, GoesOn, GoesOnTaking}
use Rattle.oas_judge.proofs.OwnLemmas.{own_draws}
use Rattle.oas_judge.proofs.RightRecords.{RightCell, RightElement, read_front, absolute_so_far, right_next}

-- ---- a judge that has failed

second_fails : (a b : Bool) → (a && b) ≡ false → IsTrue a → b ≡ false
second_fails true b h t = h
second_fails false b h t = cc

pub both_hold : (a b : Bool) → IsTrue (a && b) → IsTrue a × IsTrue b
both_hold true b h = (refl, h)
both_hold false b h = absurd cc

-- the head of a file that holds
pub is_front : (begins : Option Bool) {F : Type 0} → IfSome begins (λ yes. IsTrue yes ↔ F) → IsTrue (unwrap_or begins false) → F
is_front None is told = absurd cc
is_front (Some answer) is told = is.0 told

-- fails from then on
stays_failed : (profile : Profile) (j : FormJudge) (entries : List Entry) (x : Entry) → j.holds ≡ false → Stands profile j entries → Stands profile j (entries ++ x ∷ [])
stays_failed profile j entries x failed s = record {
  holds_is = (
    λ t. absurd (true≢false (sym t ∙ failed)),
    λ all. absurd (true≢false (sym (s.holds_is.1 ((bytes_go_on profile entries x).0 all).0) ∙ failed)),
  );
  name_is = λ t. absurd (true≢false (sym t ∙ failed));
  element_is = λ t. absurd (true≢false (sym t ∙ failed));
}

pub goes_on_failed : (known : List ℕ) (j : FileJudge) (candidate : Candidate) → holds j ≡ false → GoesOn known j candidate j
goes_on_failed known j candidate failed limits profile head start entries r bytes read says tied judging = record {
  by = judging.by;
  begins = judging.begins;
  stands = λ b. stays_failed profile j.form entries (r, bytes) (second_fails (unwrap_or j.begins false) j.form.holds failed b) (judging.stands b);
}

-- ---- a judge that holds

-- where the head is canonical, the table-offsets are in START
are_read : (limits : Limits) (head : Head) (entries : List Entry) → head.flag_in_end ≡ false → AreEntries limits head entries → AreRead limits entries
are_read limits head entries flag read = record { each = subst (λ (in_end : Bool). AllByRecursion (λ e. inner_in in_end e.0 e.1) entries) flag read.each; allowed = read.allowed }

module _ (known : List ℕ) (j : FileJudge) (form : FormJudge) (told : IsTrue (holds j)) where
  pub goes_on_opened : (name : List ℕ) → FormGoesOn j.form (record_of.Cell (ByName name), known) form → GoesOn known j (candidates.Cell name) (record j { form = form })
  goes_on_opened name step limits profile head start entries r bytes read says tied judging = record {
    by = judging.by;
    begins = judging.begins;
    stands = λ b. let is = says told in subst (λ (e : Entry). Stands profile form (entries ++ e ∷ [])) (λ i. (sym is.0 i, tied told i)) (step profile entries (judging.stands b));
  }

  -- what was read has the bytes that were kept
  kept_read : (limits : Limits) (profile : Profile) (head : Head) (start : List ℕ) (entries : List Entry) (r : Record) (bytes : List ℕ) → AreEntries limits head (entries ++ (r, bytes) ∷ []) →
      (IsTrue (holds j) → known ≡ bytes) → IsJudging profile j head start entries → AreRead limits (entries ++ (r, known) ∷ [])
  kept_read limits profile head start entries r bytes read tied judging =
      subst (λ (b : List ℕ). AreRead limits (entries ++ (r, b) ∷ [])) (sym (tied told))
      (are_read limits head (entries ++ (r, bytes) ∷ []) (is_front j.begins judging.begins (both_hold (unwrap_or j.begins false) j.form.holds told).0).flag read)

  -- all before it match
  matched : (profile : Profile) (head : Head) (start : List ℕ) (entries : List Entry) → IsJudging profile j head start entries → AllMatch profile [] entries
  matched profile head start entries judging = let both = both_hold (unwrap_or j.begins false) j.form.holds told in (judging.stands both.0).holds_is.0 both.1

  pub goes_on_drawn : (kept : Element) → GoesOnDrawing j.form kept known form → GoesOn known j (candidates.Element kept) (record j { form = form })
  goes_on_drawn kept step limits profile head start entries r bytes read says tied judging =
      let g = says told in
      let all = kept_read limits profile head start entries r bytes read tied judging in
      let absolute = absolute_so_far limits profile entries (read_front entries (r, known) all) (matched profile head start entries judging) in
      let one : elements_at r (reverse (entry_records entries)) ≡ Named g.element ∷ [] = own_draws (reverse (entry_records entries)) r (Named g.element) absolute g.drawn in
      record {
        by = judging.by;
        begins = judging.begins;
        stands = λ b. subst (λ (c : List ℕ). Stands profile form (entries ++ (r, c) ∷ [])) (tied told) (step limits profile entries r g.element all one g.form (judging.stands b));
      }

  pub goes_on_refused : GoesOnRefusing j.form form → GoesOn known j candidates.Other (record j { form = form })
  goes_on_refused step limits profile head start entries r bytes read says tied judging =
      let nowhere = says told in
      let all = kept_read limits profile head start entries r bytes read tied judging in
      let m = matched profile head start entries judging in
      record {
        by = judging.by;
        begins = judging.begins;
        stands = λ b. subst (λ (c : List ℕ). Stands profile form (entries ++ (r, c) ∷ [])) (tied told)
            (step profile entries (r, known) (judging.stands b) (λ here.
            elim (right_next limits profile entries (r, known) all m here) [
              | RightCell name is short ↦ nowhere.cell name is short
              | RightElement e drawn fit normal ↦ nowhere.element e drawn fit normal
            ]));
      }

-- ---- a rectangle at hand

-- the element of a rectangle's record is kept unchanged
kept_so : (e : Element) (r : OneRectangle) → element_record e ≡ record_of.Rectangle r → (profile : Profile) → e ≡ normal profile e
kept_so (Rectangle layer datatype width height x y) r is profile = refl
kept_so e r is profile = absurd cc

-- so is that of a placement's or a text's
named_so : (e : Element) (next : NamedOnce) → element_record e ≡ named_record next → (profile : Profile) → e ≡ normal profile e
named_so (Placement name x y turns flip) next is profile = refl
named_so (Text string textlayer texttype x y) next is profile = refl
named_so e (once.Placement c quarters flip px py) is profile = absurd cc
named_so e (once.Text s textlayer texttype px py) is profile = absurd cc

-- the bytes that spell it in the shortest style are the canonical ones
pub bytes_so : (e : Element) (r : Record) (bytes : List ℕ) → element_record e ≡ r → IsDrawable e → Fits e → record_in Shortest false r bytes → element_bytes e ≡ bytes
bytes_so e r bytes is fit fits spelled =
    let sound : IsSound e = record { points = fit.points; inside = fit.inside; fits = fits } in
    let there : record_in Shortest false (element_record e) bytes = subst (λ (s : Record). record_in Shortest false s bytes) (sym is) spelled in
    sym ((element_is_bytes e bytes sound fit.light).0 there)

-- a judge that has failed
pub peeked_failed : (known : List ℕ) (j : FileJudge) (r : Record) → holds j ≡ false → GoesOnTaking known j r j
peeked_failed known j r failed = record { candidate = candidates.Other; says = λ told. absurd (true≢false (sym told ∙ failed)); goes_on = goes_on_failed known j candidates.Other failed }

-- one that holds
pub peeked_drawn : (j : FileJudge) (form : FormJudge) (ahead : PeekedRectangle) (e : Element) (all : List ℕ) → IsTrue (holds j) → IsPeeked all ahead → IsSpelledBy ahead e
    → ((bytes : List ℕ) → element_bytes e ≡ bytes → GoesOnDrawing j.form e bytes form) → GoesOnTaking (take ahead.length all) j (record_of.Rectangle ahead.rectangle) (record j { form = form })
peeked_drawn j form ahead e all told is spelled step = record {
  candidate = candidates.Element e;
  says = λ told. record { element = e; drawn = spelled.drawn; form = kept_so e ahead.rectangle spelled.is j.profile; fit = spelled.fit };
  goes_on =
      goes_on_drawn (take ahead.length all) j form told e (step (take ahead.length all) (bytes_so e (record_of.Rectangle ahead.rectangle) (take ahead.length all) spelled.is spelled.fit spelled.fits (is.shortest spelled.shortest false)));
}

-- for a placement or a text
pub named_drawn : (j : FileJudge) (form : FormJudge) (ahead : PeekedNamed) (e : Element) (all : List ℕ) → IsTrue (holds j) → IsPeekedNamed all ahead → IsTrue ahead.shortest
    → IsNamedBy ahead.element e → ((bytes : List ℕ) → element_bytes e ≡ bytes → GoesOnDrawing j.form e bytes form)
    → GoesOnTaking (take ahead.length all) j (named_record ahead.element) (record j { form = form })
named_drawn j form ahead e all told is short named step = record {
  candidate = candidates.Element e;
  says = λ told. record { element = e; drawn = named.drawn; form = named_so e ahead.element named.is j.profile; fit = named.fit };
  goes_on =
      goes_on_drawn (take ahead.length all) j form told e (step (take ahead.length all) (bytes_so e (named_record ahead.element) (take ahead.length all) named.is named.fit named.fits (is.shortest short false)));
}
