-- A file that is judged record by record is a canonical form exactly if the judgement holds.
use Rattle.std.proofs.Common.{◌≡◌, ◌↔◌, ℕ, Bool, false, List, [], ◌∷◌, ◌++◌, reverse, refl, sym, ap, subst, ◌∙◌, append_assoc}
use Rattle.std.proofs.lemmas.List.{reverse-append, append-nil}
use Rattle.std.specs.List.{AllByRecursion}
use Rattle.oas_num.specs.Grammar.{IsSuch, IsEach}
use Rattle.oas_num.specs.Style.{Any, Shortest}
use Rattle.oas_record.specs.declared.heads.Head.{Head}
use Rattle.oas_record.specs.declared.records.Record.{Record}
use Rattle.oas_record.specs.declared.records.Record.TheVariants as record_of
use Rattle.oas_record.specs.declared.references.CellRef.TheVariants as cell
use Rattle.oas_record.specs.Heads.{head_in}
use Rattle.oas_record.specs.Laws.HeadLaws.{PrefixFree-head, OneSpelling-head, IsWithin-head}
use Rattle.oas_record.specs.Records.{record_in, IsInner}
use Rattle.oas_record.specs.Laws.RecordLaws.{PrefixFree-record, OneSpelling-record, IsWithin-record}
use Rattle.oas_elements.specs.declared.limits.Limits.{Limits}
use Rattle.oas_elements.specs.declared.profile.Profile.{Profile}
use Rattle.oas_file.specs.Stands.{records_mean}
use Rattle.oas_file.specs.Acceptance.{Allowed, IsWhole, Accepted}
use Rattle.oas_file.specs.Files.{FileIn}
use Rattle.oas_file.specs.Laws.FileLaws.{one_reading}
use Rattle.oas_form.specs.Bytes.{string_bytes, element_bytes, head_bytes, end_bytes}
use Rattle.oas_form.specs.Canonical.{IsOrdered, CanonicalForm}
use Rattle.oas_form.specs.Records.{element_record, records_of}
use Rattle.oas_form.specs.Judging.{JudgedSoFar, Entry, entry_records, entry_bytes, IsReadAs, judge_of, AreInOrder, JudgedFile, JudgeIsRight, IsReadAsSome, JudgeBegins, JudgeGoesOn}
use Rattle.oas_form.specs.Judging.{JudgeStays, JudgeSteps, HeadIsBytes, CellIsBytes, ElementIsBytes, EndIsBytes}
use Rattle.oas_form.proofs.ShortestLemmas.{shortest_is_canonical, shortest_has_points}
use Rattle.oas_form.proofs.ElementSpelling.{spelled}
use Rattle.oas_form.proofs.AllKinds.{of_element}
use Rattle.oas_form.proofs.Spelling.{cell_inner, head_spelled, end_spelled}
use Rattle.oas_form.proofs.JudgeElements.{judged_if_ordered, ordered_if_judged}

-- ---- the entries of a file

-- entries of one style are its records in that style
each_entry : (flag : Bool) (entries : List Entry) → AllByRecursion (λ e. IsSuch IsInner (record_in Any flag) e.0 e.1) entries → AllByRecursion (λ e. record_in Shortest flag e.0 e.1) entries
    → IsEach (IsSuch IsInner (record_in Shortest flag)) (entry_records entries) (entry_bytes entries)
each_entry flag [] any shortest = refl
each_entry flag (e ∷ es) any shortest = (e.1, entry_bytes es, record { holds = any.0.holds; spelled = shortest.0 }, each_entry flag es any.1 shortest.1, refl)

each_read : (flag : Bool) (entries : List Entry) → AllByRecursion (λ e. IsSuch IsInner (record_in Any flag) e.0 e.1) entries →
    IsEach (IsSuch IsInner (record_in Any flag)) (entry_records entries) (entry_bytes entries)
each_read flag [] any = refl
each_read flag (e ∷ es) any = (e.1, entry_bytes es, any.0, each_read flag es any.1, refl)

-- what follows equal prefixes is equal
same_front : (a x y : List ℕ) → a ++ x ≡ a ++ y → x ≡ y
same_front [] x y e = e
same_front (b ∷ bs) x y e = same_front bs x y cc

cancelled : (a b x y : List ℕ) → a ≡ b → a ++ x ≡ b ++ y → x ≡ y
cancelled a b x y p e = same_front b x y (ap (λ (c : List ℕ). c ++ x) (sym p) ∙ e)

-- the entries have the bytes that spell them in the shortest style, where there are such bytes
record EntriesShortest (flag : Bool) (entries : List Entry) (x y : List ℕ) : Type 0 where
  shortest : AllByRecursion (λ e. record_in Shortest flag e.0 e.1) entries
  rest : x ≡ y

aligned : (flag : Bool) (entries : List Entry) (body x y : List ℕ) → AllByRecursion (λ e. IsSuch IsInner (record_in Any flag) e.0 e.1) entries →
    IsEach (IsSuch IsInner (record_in Shortest flag)) (entry_records entries) body → body ++ x ≡ entry_bytes entries ++ y → EntriesShortest flag entries x y
aligned flag [] body x y any h e = record { shortest = tt; rest = ap (λ (b : List ℕ). b ++ x) (sym h) ∙ e }
aligned flag (r ∷ rs) body x y any h e =
    let joined : h.0 ++ (h.1 ++ x) ≡ r.1 ++ (entry_bytes rs ++ y) = sym (append_assoc h.0 h.1 x) ∙ ap (λ (b : List ℕ). b ++ x) (sym h.4) ∙ e ∙ append_assoc r.1 (entry_bytes rs) y in
    let one = (PrefixFree-record Any flag).one r.0 r.0 h.0 r.1 (h.1 ++ x) (entry_bytes rs ++ y) ((IsWithin-record flag).within r.0 h.0 h.2.spelled) any.0.spelled joined in
    let rest : h.1 ++ x ≡ entry_bytes rs ++ y = cancelled h.0 r.1 (h.1 ++ x) (entry_bytes rs ++ y) one.0 joined in
    let more = aligned flag rs h.1 x y any.1 h.3 rest in
    record { shortest = (subst (record_in Shortest flag r.0) one.0 h.2.spelled, more.shortest); rest = more.rest }

-- ---- what was read is a file

pub read_file : (b : List ℕ) (head : Head) (start : List ℕ) (entries : List Entry) (last : List ℕ) → IsReadAs b head start entries last → FileIn Any head (entry_records entries) b
read_file b head start entries last h = record {
  spelled = record {
    front = start;
    back = entry_bytes entries ++ last;
    first = h.begun;
    second = record { front = entry_bytes entries; back = last; first = each_read head.flag_in_end entries h.each; second = record { holds = refl; spelled = h.ended }; joined = refl };
    joined = h.joined;
  };
}

judged_file : (profile : Profile) (b : List ℕ) (head : Head) (start : List ℕ) (entries : List Entry) (last : List ℕ) → IsReadAs b head start entries last →
    JudgedFile profile head start entries last → FileIn Shortest head (entry_records entries) b
judged_file profile b head start entries last h j = record {
  spelled = record {
    front = start;
    back = entry_bytes entries ++ last;
    first = j.so_far.head_shortest;
    second = record {
      front = entry_bytes entries;
      back = last;
      first = each_entry head.flag_in_end entries h.each j.so_far.shortest;
      second =
          record { holds = refl; spelled = j.end_shortest };
      joined = refl;
    };
    joined = h.joined;
  };
}

-- a judged file is a canonical form
judged_form : (limits : Limits) (profile : Profile) (b : List ℕ) (head : Head) (start : List ℕ) (entries : List Entry) (last : List ℕ) → Accepted limits b →
    IsReadAs b head start entries last → JudgedFile profile head start entries last → CanonicalForm limits profile b
judged_form limits profile b head start entries last a h j =
    let rs : List Record = entry_records entries in
    let both = one_reading Any Any a.head head a.records (entry_records entries) b a.file (read_file b head start entries last h) in
    let allowed : Allowed limits rs = subst (Allowed limits) both.1 a.allowed in
    let file = judged_file profile b head start entries last h j in
    let is : rs ≡ records_of (records_mean head.unit rs).cells = shortest_is_canonical limits head rs b file allowed in
    record {
      head = head;
      records = rs;
      file = file;
      allowed = allowed;
      whole = subst (IsWhole limits) both.1 a.whole;
      ordered = ordered_if_judged profile (records_mean head.unit rs).cells (shortest_has_points limits head rs b file allowed)
          (subst (λ (ss : List Record). AreInOrder profile (reverse ss)) is j.so_far.in_order);
    }

-- a canonical form is judged to be one
form_judged : (limits : Limits) (profile : Profile) (b : List ℕ) (head : Head) (start : List ℕ) (entries : List Entry) (last : List ℕ) → IsReadAs b head start entries last →
    CanonicalForm limits profile b → JudgedFile profile head start entries last
form_judged limits profile b head start entries last h c =
    let rs : List Record = entry_records entries in
    let both = one_reading Shortest Any c.head head c.records rs b c.file (read_file b head start entries last h) in
    let file : FileIn Shortest head rs b = subst (λ (p : Head × List Record). FileIn Shortest p.0 p.1 b) (λ i. (both.0 i, both.1 i)) c.file in
    let allowed : Allowed limits rs = subst (Allowed limits) both.1 c.allowed in
    let ordered : IsOrdered profile (records_mean head.unit rs).cells = subst (λ (p : Head × List Record). IsOrdered profile (records_mean p.0.unit p.1).cells) (λ i. (both.0 i, both.1 i)) c.ordered in
    let is : rs ≡ records_of (records_mean head.unit rs).cells = shortest_is_canonical limits head rs b file allowed in
    let s = file.spelled in
    let front = (PrefixFree-head Any).one head head s.front start s.back (entry_bytes entries ++ last) (IsWithin-head.within head s.front s.first) h.begun (sym s.joined ∙ h.joined) in
    let back : s.back ≡ entry_bytes entries ++ last = cancelled s.front start s.back (entry_bytes entries ++ last) front.0 (sym s.joined ∙ h.joined) in
    let all = aligned head.flag_in_end entries s.second.front s.second.back last h.each s.second.first (sym s.second.joined ∙ back) in
    record {
      so_far = record {
        head_shortest = subst (head_in Shortest head) front.0 s.first;
        shortest = all.shortest;
        in_order = subst (λ (ss : List Record). AreInOrder profile (reverse ss)) (sym is)
            (judged_if_ordered profile (records_mean head.unit rs).cells (shortest_has_points limits head rs b file allowed) ordered);
      };
      end_shortest = subst (record_in Shortest head.flag_in_end record_of.End) all.rest s.second.second.spelled;
    }

pub judge_is_right : JudgeIsRight
judge_is_right limits profile b head start entries last a h = (form_judged limits profile b head start entries last h, judged_form limits profile b head start entries last a h)

-- ---- an accepted file was read

record Entries (flag : Bool) (rs : List Record) (bytes : List ℕ) : Type 0 where
  entries : List Entry
  each : AllByRecursion (λ e. IsSuch IsInner (record_in Any flag) e.0 e.1) entries
  bytes_are : bytes ≡ entry_bytes entries

entries_of : (flag : Bool) (rs : List Record) (bytes : List ℕ) → IsEach (IsSuch IsInner (record_in Any flag)) rs bytes → Entries flag rs bytes
entries_of flag [] bytes h = record { entries = []; each = tt; bytes_are = h }
entries_of flag (r ∷ rs) bytes h =
    let more = entries_of flag rs h.1 h.3 in
    record { entries = (r, h.0) ∷ more.entries; each = (h.2, more.each); bytes_are = h.4 ∙ ap (λ (b : List ℕ). h.0 ++ b) more.bytes_are }

pub is_read : IsReadAsSome
is_read limits b a =
    let s = a.file.spelled in
    let more = entries_of a.head.flag_in_end a.records s.second.front s.second.first in
    let ended : record_in Any a.head.flag_in_end record_of.End s.second.back = s.second.second.spelled in (
      a.head,
      s.front,
      more.entries,
      s.second.back,
      record {
        begun = s.first;
        each = more.each;
        ended = ended;
        joined = s.joined
            ∙ ap (λ (b : List ℕ). s.front ++ b) (s.second.joined ∙ ap (λ (b : List ℕ). b ++ s.second.back) more.bytes_are);
      },
    )

-- ---- one more entry

pub records_more : (entries : List Entry) (e : Entry) → reverse (entry_records (entries ++ e ∷ [])) ≡ e.0 ∷ reverse (entry_records entries)
records_more entries e = ap (λ (rs : List Record). reverse rs) (split entries) ∙ reverse-append (entry_records entries) (e.0 ∷ []) where
  split : (es : List Entry) → entry_records (es ++ e ∷ []) ≡ entry_records es ++ e.0 ∷ []
  split [] = refl
  split (f ∷ fs) = ap (λ (rs : List Record). f.0 ∷ rs) (split fs)

pub all_more : {A : Type 0} (P : A → Type 0) (xs : List A) (x : A) → AllByRecursion P (xs ++ x ∷ []) ↔ (AllByRecursion P xs × P x)
all_more P [] x = (λ h. (tt, h.0), λ h. (h.1, tt))
all_more P (y ∷ ys) x = let more = all_more P ys x in (λ h. let t = more.0 h.1 in ((h.0, t.0), t.1), λ h. (h.0.0, more.1 (h.0.1, h.1)))

pub judge_begins : JudgeBegins
judge_begins profile head start = (λ h. record { head_shortest = h; shortest = tt; in_order = tt }, λ j. j.head_shortest)

pub judge_goes_on : JudgeGoesOn
judge_goes_on profile head start entries e =
    let all = all_more (λ (f : Entry). record_in Shortest head.flag_in_end f.0 f.1) entries e in (
      λ j. let shortest = all.0 j.shortest in let order = subst (AreInOrder profile) (records_more entries e) j.in_order in
          (record { head_shortest = j.head_shortest; shortest = shortest.0; in_order = order.0 }, (shortest.1, order.1)),
      λ j. record { head_shortest = j.0.head_shortest; shortest = all.1 (j.0.shortest, j.1.0); in_order = subst (AreInOrder profile) (sym (records_more entries e)) (j.0.in_order, j.1.1) },
    )

pub judge_stays : JudgeStays
judge_stays profile head start entries [] j = subst (JudgedSoFar profile head start) (append-nil entries) j
judge_stays profile head start entries (e ∷ es) j =
    let longer = judge_stays profile head start (entries ++ e ∷ []) es (subst (JudgedSoFar profile head start) (sym (append_assoc entries (e ∷ []) es)) j) in
    ((judge_goes_on profile head start entries e).0 longer).0

pub judge_steps : JudgeSteps
judge_steps entries e = ap judge_of (records_more entries e)

-- ---- by comparing bytes

pub head_is_bytes : HeadIsBytes
head_is_bytes unit bytes h = (
  λ s. OneSpelling-head.same (record { unit = unit; flag_in_end = false }) bytes (head_bytes unit) s (head_spelled unit h),
  λ e. subst (head_in Shortest (record { unit = unit; flag_in_end = false })) (sym e) (head_spelled unit h),
)

pub cell_is_bytes : CellIsBytes
cell_is_bytes name bytes h =
    let r : Record = record_of.Cell (cell.Name name) in
    let is = (spelled (record_of.Cell (cell.Name name)) (14 ∷ string_bytes name) (cell_inner name h)).spelled in
    (λ s. (OneSpelling-record false).same r bytes (14 ∷ string_bytes name) s is, λ e. subst (record_in Shortest false r) (sym e) is)

pub element_is_bytes : ElementIsBytes
element_is_bytes e bytes h light =
    let r : Record = element_record e in
    let is = (spelled (element_record e) (element_bytes e) ((of_element e).inner h light)).spelled in
    (λ s. (OneSpelling-record false).same r bytes (element_bytes e) s is, λ same. subst (record_in Shortest false r) (sym same) is)

pub end_is_bytes : EndIsBytes
end_is_bytes bytes = (λ s. (OneSpelling-record false).same record_of.End bytes end_bytes s end_spelled, λ e. subst (record_in Shortest false record_of.End) (sym e) end_spelled)
