-- A file is judged by its bytes: each record's are compared with the canonical ones of what it draws.
use Rattle.std.proofs.Common.{◌≡◌, ◌↔◌, ℕ, false, List, [], ◌∷◌, ◌++◌, reverse, refl, sym, ap, subst, ◌∙◌}
use Rattle.oas_num.specs.Grammar.{IsSuch}
use Rattle.oas_num.specs.Ratio.{Ratio}
use Rattle.oas_num.specs.Style.{Any}
use Rattle.oas_record.specs.declared.heads.Head.{Head}
use Rattle.oas_record.specs.declared.records.Record.{Record}
use Rattle.oas_record.specs.Heads.{head_in}
use Rattle.oas_record.specs.Records.{record_in, IsInner}
use Rattle.oas_elements.specs.declared.limits.Limits.{Limits}
use Rattle.oas_elements.specs.declared.profile.Profile.{Profile}
use Rattle.oas_elements.specs.Sound.{IsUnit}
use Rattle.oas_elements.specs.Meaning.{Meaning}
use Rattle.oas_file.specs.Drawn.TheVariants.{Named}
use Rattle.oas_file.specs.Drawing.{elements_at}
use Rattle.oas_file.specs.Stands as stands
use Rattle.oas_file.specs.Stands.{records_mean}
use Rattle.oas_file.specs.Acceptance.{Allowed, Accepted}
use Rattle.oas_file.specs.Laws.FileLaws.{one_reading, means_one}
use Rattle.oas_form.specs.Bytes.{canonical_bytes}
use Rattle.oas_form.specs.Canonical.{IsOrdered, CanonicalForm}
use Rattle.oas_form.specs.Judging.{Entry, entry_records, IsReadAs, judge_of, AreInOrder, JudgedFile, Matches, AllMatch, JudgedByBytes, BytesJudge, BytesGoOn, KeptBytes}
use Rattle.oas_form.specs.Judging.{FormIsOrderedBytes}
use Rattle.oas_form.proofs.AllGiven.{unit_given}
use Rattle.oas_form.proofs.DrawnSound.{records_sound}
use Rattle.oas_form.proofs.Forms.{shaped}
use Rattle.oas_form.proofs.Held.{form_is_its_bytes}
use Rattle.oas_form.proofs.JudgeRecords.{judge_is_right, read_file, all_more, records_more, head_is_bytes, end_is_bytes}
use Rattle.oas_form.proofs.MeantLemmas.{onto, reverse-is}
use Rattle.oas_form.proofs.ShortestLemmas.{shortest_flag}
use Rattle.oas_form.proofs.ElementSpelling.{spelled}
use Rattle.oas_form.proofs.Written.{form_of}
use Rattle.oas_form.proofs.JudgeMatches.{all_match, all_shortest, kept_after}

pub kept_bytes : KeptBytes
kept_bytes limits profile entries x e each allowed m one =
    let split = (all_more (λ (f : Entry). IsSuch IsInner (record_in Any false) f.0 f.1) entries x).0 each in
    let is = reverse-is (entry_records entries) in
    let newest : stands.Allowed limits (x.0 ∷ reverse (entry_records entries)) = subst (stands.Allowed limits) (records_more entries x) allowed in
    kept_after profile limits [] entries x e tt refl split.0 split.1 (subst (λ (rs : List Record). stands.Allowed limits (x.0 ∷ rs)) is newest) tt m
    (subst (λ (rs : List Record). elements_at x.0 rs ≡ Named e ∷ []) is one)

-- ---- the file

-- the unit of a file that was read
head_fits : (head : Head) (start : List ℕ) → head_in Any head start → IsUnit head.unit
head_fits head start h = let s = h.spelled.second in subst (λ (p : Head). IsUnit p.unit) (s.is ∙ h.is) (unit_given s.from.1.1.0 _ s.spelled.second.second.first)

-- in a file with its table-offsets in START
judged_bytes : (limits : Limits) (profile : Profile) (b : List ℕ) (unit : Ratio) (start : List ℕ) (entries : List Entry) (last : List ℕ) → Accepted limits b →
    IsReadAs b (record { unit = unit; flag_in_end = false }) start entries last
    → JudgedFile profile (record { unit = unit; flag_in_end = false }) start entries last ↔ JudgedByBytes profile (record { unit = unit; flag_in_end = false }) start entries last
judged_bytes limits profile b unit start entries last a h =
    let head : Head = record { unit = unit; flag_in_end = false } in
    let fits : IsUnit unit = head_fits (record { unit = unit; flag_in_end = false }) start h.begun in
    let both = one_reading Any Any a.head (record { unit = unit; flag_in_end = false }) a.records (entry_records entries) b a.file
    (read_file b (record { unit = unit; flag_in_end = false }) start entries last h) in
    let allowed : stands.Allowed limits (onto (entry_records entries) []) = subst (stands.Allowed limits) (reverse-is (entry_records entries)) (subst (Allowed limits) both.1 a.allowed) in (
      λ j. record {
        flag = refl;
        start_is = (head_is_bytes unit start fits).0 j.so_far.head_shortest;
        match = all_match profile limits [] entries tt refl h.each allowed j.so_far.shortest (subst (AreInOrder profile) (reverse-is (entry_records entries)) j.so_far.in_order);
        last_is = (end_is_bytes last).0 j.end_shortest;
      },
      λ j.
          let all = all_shortest profile limits [] entries tt refl h.each allowed tt j.match in
          record {
            so_far = record {
              head_shortest = (head_is_bytes unit start fits).1 j.start_is;
              shortest = all.shortest;
              in_order = subst (AreInOrder profile)
                  (sym (reverse-is (entry_records entries))) all.order;
            };
            end_shortest = (end_is_bytes last).1 j.last_is;
          },
    )

-- the table-offsets of a file in the shortest style are in START
with_flag : (limits : Limits) (profile : Profile) (b : List ℕ) (head : Head) (start : List ℕ) (entries : List Entry) (last : List ℕ) → Accepted limits b →
    IsReadAs b head start entries last → head.flag_in_end ≡ false → JudgedFile profile head start entries last ↔ JudgedByBytes profile head start entries last
with_flag limits profile b head start entries last a h flag =
    let is : record { unit = head.unit; flag_in_end = false } ≡ head = λ i. record { unit = head.unit; flag_in_end = sym flag i } in
    subst (λ (p : Head). IsReadAs b p start entries last → JudgedFile profile p start entries last ↔ JudgedByBytes profile p start entries last) is
    (judged_bytes limits profile b head.unit start entries last a) h

pub bytes_judge : BytesJudge
bytes_judge limits profile b head start entries last a h =
    let right = judge_is_right limits profile b head start entries last a h in (
      λ c. let j = right.0 c in (with_flag limits profile b head start entries last a h (shortest_flag head start j.so_far.head_shortest)).0 j,
      λ j. right.1 ((with_flag limits profile b head start entries last a h j.flag).1 j),
    )

-- one more entry, after those records
more_match : (profile : Profile) (before : List Record) (es : List Entry) (e : Entry) →
    AllMatch profile before (es ++ e ∷ []) ↔ (AllMatch profile before es × Matches profile (judge_of (onto (entry_records es) before)) e.0 e.1 (elements_at e.0 (onto (entry_records es) before)))
more_match profile before [] e = (λ h. (tt, h.0), λ h. (h.1, tt))
more_match profile before (f ∷ fs) e = let more = more_match profile (f.0 ∷ before) fs e in (λ h. let t = more.0 h.1 in ((h.0, t.0), t.1), λ h. (h.0.0, more.1 (h.0.1, h.1)))

pub bytes_go_on : BytesGoOn
bytes_go_on profile entries e =
    subst (λ (rs : List Record). AllMatch profile [] (entries ++ e ∷ []) ↔ (AllMatch profile [] entries × Matches profile (judge_of rs) e.0 e.1 (elements_at e.0 rs)))
    (sym (reverse-is (entry_records entries))) (more_match profile [] entries e)

-- ---- by the meaning of the file

pub form_is_ordered_bytes : FormIsOrderedBytes
form_is_ordered_bytes limits profile b m a k = (
  λ c. ((shaped limits profile b m c k).ordered, form_is_its_bytes limits profile b m c k),
  λ h.
      let is : records_mean a.head.unit a.records ≡ m = means_one b _ m (record { head = a.head; records = a.records; file = a.file; is = refl }) k in
      let s = records_sound limits b a in
      let ordered : IsOrdered profile (records_mean a.head.unit a.records).cells = subst (λ (n : Meaning). IsOrdered profile n.cells) (sym is) h.0 in
      let form = form_of limits profile (records_mean a.head.unit a.records) s.spellable ordered s.few s.light in
      subst (CanonicalForm limits profile) (ap canonical_bytes is ∙ sym h.1) form.0,
)
