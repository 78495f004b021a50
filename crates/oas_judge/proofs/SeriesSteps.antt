-- How a series of records is taken and judged, in a read that has seen some entries.
use Rattle.std.proofs.Common.{◌≡◌, ℕ, ◌+◌, ◌-◌, ◌<◌, ◌≤◌, Bool, true, false, List, [], ◌∷◌, ◌++◌, length, map, None, Some, Ok, inl, refl, sym, ap, subst, ◌∙◌, append_assoc, arith}
use Rattle.std.proofs.lemmas.List.{length-append, length-map, take_at}
use Rattle.std.proofs.lemmas.List.Sums.{sum_by-append, sum_by-cons}
use Rattle.std.specs.Prelude.{◌^◌, min, take, sum_by}
use Rattle.std.specs.List.{AllByRecursion}
use Rattle.oas_num.specs.declared.refusals.Why.TheVariants.{Memory}
use Rattle.oas_num.specs.declared.refusals.Refusal.{Refusal}
use Rattle.oas_num.specs.Script.{Script, Consumed}
use Rattle.oas_num.specs.Style.{Any}
use Rattle.oas_num.proofs.ReadLemmas.{Consumed-then}
use Rattle.oas_num.proofs.RefusingLemmas.{ForMemory, judged_refused}
use Rattle.oas_record.specs.declared.heads.Head.{Head}
use Rattle.oas_record.specs.declared.records.Record.{Record}
use Rattle.oas_record.specs.Records.{record_in}
use Rattle.oas_elements.specs.declared.element.Element.{Element}
use Rattle.oas_elements.specs.declared.limits.Limits.{Limits}
use Rattle.oas_elements.specs.declared.profile.Profile.{Profile}
use Rattle.oas_elements.specs.Element.{kind}
use Rattle.oas_elements.specs.Grid.{fits_grid}
use Rattle.oas_elements.specs.Weight.{weight_of, lacks_points}
use Rattle.oas_writing.specs.Acceptance.{Allowed}
use Rattle.oas_writing.specs.Deciding.{TheNext}
use Rattle.oas_writing.specs.Files.{PrefixOf}
use Rattle.oas_writing.specs.Gathering.{inner_in}
use Rattle.oas_writing.specs.Judging.{Entry, entry_records, entry_bytes}
use Rattle.oas_writing.specs.Reading.{Refuses}
use Rattle.oas_writing.specs.Records.{element_record}
use Rattle.oas_writing.specs.Series.{IsSeries, LandsNear, HasRoom}
use Rattle.oas_writing.specs.Standing.{Standing}
use Rattle.oas_writing.specs.Stands.{ReaderState, Represents, refusal as refusal_of}
use Rattle.oas_writing.specs.Stores.{Store}
use Rattle.oas_writing.proofs.ElementSeries.{IsRoomy, element_series, series_allowed, lands_near}
use Rattle.oas_writing.proofs.Fronts.{allowed_prefix, allowed_last}
use Rattle.oas_writing.proofs.Refusing.{memory_placed}
use Rattle.oas_writing.proofs.SomePlaces.{record_long}
use Rattle.oas_judge.specs.declared.judge.FileJudge.{FileJudge}
use Rattle.oas_judge.specs.declared.series.Series.{Series}
use Rattle.oas_judge.specs.Judged.{HasBegun, HasSeen}
use Rattle.oas_judge.specs.Parts.{MayWant, SeesRefused}
use Rattle.oas_judge.specs.Series.{Item, item_entries, item_elements, IsItem, EndsSeries, JudgesSeries}
use Rattle.oas_judge.proofs.RecordSteps.{records_with, bytes_with, front_of}
use Rattle.oas_judge.proofs.SeriesItems.{entries_with, elements_with}

-- ---- lists of entries

all_append : {A : Type 0} (P : A → Type 0) (xs ys : List A) → AllByRecursion P xs → AllByRecursion P ys → AllByRecursion P (xs ++ ys)
all_append P [] ys a b = b
all_append P (x ∷ xs) ys a b = (a.0, all_append P xs ys a.1 b)

all_front : {A : Type 0} (P : A → Type 0) (xs ys : List A) → AllByRecursion P (xs ++ ys) → AllByRecursion P xs × AllByRecursion P ys
all_front P [] ys a = (tt, a)
all_front P (x ∷ xs) ys a = let b = all_front P xs ys a.1 in ((a.0, b.0), b.1)

records_append : (xs ys : List Entry) → entry_records (xs ++ ys) ≡ entry_records xs ++ entry_records ys
records_append [] ys = refl
records_append (x ∷ xs) ys = ap (λ (rs : List Record). x.0 ∷ rs) (records_append xs ys)

bytes_append : (xs ys : List Entry) → entry_bytes (xs ++ ys) ≡ entry_bytes xs ++ entry_bytes ys
bytes_append [] ys = refl
bytes_append (x ∷ xs) ys = ap (λ (b : List ℕ). x.1 ++ b) (bytes_append xs ys) ∙ sym (append_assoc x.1 (entry_bytes xs) (entry_bytes ys))

-- ---- lists of items

item_records : (items : List Item) → entry_records (item_entries items) ≡ map element_record (item_elements items)
item_records [] = refl
item_records (i ∷ is) = ap (λ (rs : List Record). element_record i.0 ∷ rs) (item_records is)

items_points : (items : List Item) → AllByRecursion IsItem items → AllByRecursion (λ f. lacks_points f ≡ false) (item_elements items)
items_points [] h = tt
items_points (i ∷ is) h = (h.0.fit.points, items_points is h.1)

items_fit : (items : List Item) → AllByRecursion IsItem items → AllByRecursion (λ f. fits_grid f ≡ true) (item_elements items)
items_fit [] h = tt
items_fit (i ∷ is) h = (h.0.fit.inside, items_fit is h.1)

items_alike : (e : Element) (items : List Item) → AllByRecursion (λ i. kind i.0 ≡ kind e) items → AllByRecursion (λ f. kind f ≡ kind e) (item_elements items)
items_alike e [] h = tt
items_alike e (i ∷ is) h = (h.0, items_alike e is h.1)

items_inner : (in_end : Bool) (items : List Item) → AllByRecursion IsItem items → AllByRecursion (λ x. inner_in in_end x.0 x.1) (item_entries items)
items_inner in_end [] h = tt
items_inner in_end (i ∷ is) h = (h.0.spelled in_end, items_inner in_end is h.1)

-- ---- memory

-- it may have run out for a record that was read and is allowed
memory_at : (limits : Limits) (old new : Script) (head : Head) (records : List Record) (r : Record) (before bytes : List ℕ) (at : ℕ) → Consumed old (before ++ bytes) new → PrefixOf head records before
    → Allowed limits records → record_in Any head.flag_in_end r bytes → refusal_of limits records r ≡ None → at ≡ old.given + length before → Refuses limits old (record { at = at; why = Memory }) new
memory_at limits old new head records r before bytes at takes front allowed spelled none place = (
  judged_refused takes (ForMemory refl),
  memory_placed at Memory (before ++ bytes) takes refl,
  record {
    bytes = before ++ bytes;
    takes = takes;
    decided = λ fresh. TheNext (record {
      left = bytes;
      head = head;
      records = records;
      next = r;
      before = record { before = before; front = front; allowed = allowed; place = omega (arith, place, fresh); joined = refl };
      spelled = spelled;
      reason = inl (refl, inl none);
    });
  },
)

-- ---- a series

below : (a b : ℕ) → a ≤ b → min a b ≡ a
below a b h = grind arith

module _ {all : List ℕ} {most heaviest : ℕ} {old : FileJudge} {last : Record} {series : Series} {new : FileJudge} (e : EndsSeries all most heaviest old last series new) where
  abbrev pub items : List Item
  items = e.front ++ e.final ∷ []

  -- its bytes
  series_bytes : take series.length all ≡ entry_bytes (item_entries items)
  series_bytes = ap (take series.length) e.has.joined ∙ take_at (entry_bytes (item_entries items)) e.has.rest series.length (sym e.has.length_is)

  pub series_within : series.length ≤ length all
  series_within = omega (arith, e.has.length_is, ap length e.has.joined, length-append (entry_bytes (item_entries items)) e.has.rest)

  split_bytes : entry_bytes (item_entries items) ≡ entry_bytes (item_entries e.front) ++ e.final.1
  split_bytes = ap entry_bytes (entries_with e.front e.final) ∙ bytes_with (item_entries e.front) (element_record e.final.0, e.final.1)

  pub last_within : series.last ≤ series.length
  last_within = omega (arith, e.last_is, e.has.length_is, ap length split_bytes, length-append (entry_bytes (item_entries e.front)) e.final.1)

  final_item : IsItem e.final
  final_item = (all_front IsItem e.front (e.final ∷ []) e.has.each).1.0

  pub series_taken : length (take series.length all) ≡ series.length
  series_taken = ap length series_bytes ∙ sym e.has.length_is

  -- it has bytes
  pub series_long : 0 < series.length
  series_long = omega (arith, record_long false (element_record e.final.0) e.final.1 (final_item.spelled false).spelled, e.last_is, last_within)

  count_all : series.count ≡ length (item_elements e.front ++ e.final.0 ∷ [])
  count_all = e.has.count_is ∙ (sym (length-map items (λ (i : Item). i.0)) ∙ ap length (elements_with e.front e.final))

  weight_all : series.weight ≡ sum_by weight_of (item_elements e.front ++ e.final.0 ∷ [])
  weight_all = e.has.weight_is ∙ ap (sum_by weight_of) (elements_with e.front e.final)

  count_some : 1 ≤ series.count
  count_some = omega (arith, count_all, length-append (item_elements e.front) (e.final.0 ∷ []))

  weight_some : weight_of e.final.0 ≤ series.weight
  weight_some = omega (arith, weight_all, sum_by-append weight_of (item_elements e.front) (e.final.0 ∷ []), sum_by-cons weight_of e.final.0 [])

  -- where its last record begins, from where it ends
  module _ {mid behind : Script} (takes : Consumed mid (take series.length all) behind) where
    pub end_far : (end : ℕ) → end ≡ behind.given → series.last ≤ end
    end_far end is = omega (arith, is, takes.given, series_taken, last_within)

    pub last_place : (end : ℕ) → end ≡ behind.given → (end - series.last) + series.last ≡ mid.given + series.length
    last_place end is = omega (arith, is, takes.given, series_taken, last_within)

    -- and from where it begins
    pub early_place : (from at end : ℕ) → from ≡ mid.given → at ≡ min (from + (series.length - series.last)) (2 ^ 64 - 1) → end ≡ behind.given → end < 2 ^ 64 → at + series.last ≡ mid.given + series.length
    early_place from at end from_is at_is end_is fits =
        let given = takes.given in
        let taken = series_taken in
        let within = last_within in
        let all_fits : from + (series.length - series.last) ≤ 2 ^ 64 - 1 = omega (arith, from_is, end_is, fits, given, taken, within) in
        let exact : at ≡ from + (series.length - series.last) = at_is ∙ below (from + (series.length - series.last)) (2 ^ 64 - 1) all_fits in
        omega (arith, exact, from_is, within)

  module _ {C : Type 0} {s : ReaderState C} (room : HasRoom s most heaviest) where
    -- there is room for it
    pub series_room : HasRoom s series.count series.weight
    series_room = record { going = room.going; inside = room.inside; absolute = room.absolute; few = omega (arith, room.few, e.has.few); light = omega (arith, room.light, e.has.light) }

    pub series_lands : LandsNear s.standing.modal last
    series_lands =
        subst (λ (r : Record). LandsNear s.standing.modal r) e.is
        (lands_near s.limits s.standing.count s.standing.weight s.standing.modal e.final.0 room.absolute final_item.fit.points final_item.fit.inside (omega (arith, room.few, e.has.few, count_some))
        (omega (arith, room.light, e.has.light, weight_some)))

-- in a read that has seen some entries
module _ {C : Type 0} {t : Store C} {profile : Profile} {head : Head} {now : Script} {first : ReaderState C} {judge : FileJudge} (b : HasBegun t profile head now first judge) {mid : Script} {s : ReaderState C}
    {k : FileJudge} (m : HasSeen t profile head b.begun.start b.origin first mid s k) {all : List ℕ} {most heaviest : ℕ} {last : Record} {series : Series} {judged : FileJudge}
    (room : HasRoom s most heaviest) (e : EndsSeries all most heaviest k last series judged) {new : Script} (takes : Consumed mid (take series.length all) new) where
  abbrev rs : List Record
  rs = entry_records m.entries

  abbrev es : List Element
  es = item_elements e.front

  abbrev xs : List Entry
  xs = item_entries (e.front ++ e.final ∷ [])

  elements_all : item_elements (e.front ++ e.final ∷ []) ≡ es ++ e.final.0 ∷ []
  elements_all = elements_with e.front e.final

  roomy : IsRoomy first.limits rs es e.final.0
  roomy =
      let there = m.taken.stands.standing in
      let limits = m.taken.same.limits in
      record {
        absolute = ap (λ (v : Standing). v.modal.relative) (sym there) ∙ room.absolute;
        inside = ap (λ (v : Standing). v.in_cell) (sym there) ∙ room.inside;
        allowed = m.taken.allowed;
        alike = items_alike e.final.0 e.front e.alike;
        points = subst (AllByRecursion (λ f. lacks_points f ≡ false)) elements_all (items_points (e.front ++ e.final ∷ []) e.has.each);
        fit = subst (AllByRecursion (λ f. fits_grid f ≡ true)) elements_all (items_fit (e.front ++ e.final ∷ []) e.has.each);
        few = omega (arith, ap (λ (v : Standing). v.count) there, ap (λ (l : Limits). l.elements) limits, room.few, e.has.few, count_all e);
        light = omega (arith, ap (λ (v : Standing). v.weight) there, ap (λ (l : Limits). l.weight) limits, room.light, e.has.light, weight_all e);
      }

  -- the records of all entries
  records_all : entry_records (m.entries ++ xs) ≡ rs ++ map element_record (es ++ e.final.0 ∷ [])
  records_all = records_append m.entries xs ∙ ap (λ (ss : List Record). rs ++ ss) (item_records (e.front ++ e.final ∷ []) ∙ ap (λ (fs : List Element). map element_record fs) elements_all)

  allowed_all : Allowed first.limits (entry_records (m.entries ++ xs))
  allowed_all = subst (Allowed first.limits) (sym records_all) (series_allowed first.limits rs es e.final.0 roomy)

  each_all : AllByRecursion (λ x. inner_in head.flag_in_end x.0 x.1) (m.entries ++ xs)
  each_all = all_append (λ (x : Entry). inner_in head.flag_in_end x.0 x.1) m.entries xs m.each (items_inner head.flag_in_end (e.front ++ e.final ∷ []) e.has.each)

  takes_all : Consumed b.origin (b.begun.start ++ entry_bytes (m.entries ++ xs)) new
  takes_all =
      subst (λ (bytes : List ℕ). Consumed b.origin bytes new)
      (append_assoc b.begun.start (entry_bytes m.entries) (take series.length all)
      ∙ ap (λ (bytes : List ℕ). b.begun.start ++ bytes) (ap (λ (bytes : List ℕ). entry_bytes m.entries ++ bytes) (series_bytes e) ∙ sym (bytes_append m.entries xs)))
      (Consumed-then b.origin mid new (b.begun.start ++ entry_bytes m.entries) (take series.length all) m.takes takes)

  -- ---- memory may have run out for the last of them

  abbrev fs : List Entry
  fs = m.entries ++ item_entries e.front

  abbrev x : Entry
  x = (element_record e.final.0, e.final.1)

  entries_split : m.entries ++ xs ≡ fs ++ x ∷ []
  entries_split = ap (λ (ys : List Entry). m.entries ++ ys) (entries_with e.front e.final) ∙ sym (append_assoc m.entries (item_entries e.front) (x ∷ []))

  allowed_split : Allowed first.limits (entry_records fs ++ element_record e.final.0 ∷ [])
  allowed_split = subst (Allowed first.limits) (ap entry_records entries_split ∙ records_with fs x) allowed_all

  each_front : AllByRecursion (λ y. inner_in head.flag_in_end y.0 y.1) fs
  each_front = (all_front (λ (y : Entry). inner_in head.flag_in_end y.0 y.1) fs (x ∷ []) (subst (AllByRecursion (λ (y : Entry). inner_in head.flag_in_end y.0 y.1)) entries_split each_all)).0

  bytes_split : b.begun.start ++ entry_bytes (m.entries ++ xs) ≡ (b.begun.start ++ entry_bytes fs) ++ e.final.1
  bytes_split = ap (λ (bytes : List ℕ). b.begun.start ++ bytes) (ap entry_bytes entries_split ∙ bytes_with fs x) ∙ sym (append_assoc b.begun.start (entry_bytes fs) e.final.1)

  pub series_wants : (at : ℕ) → at + series.last ≡ mid.given + series.length → MayWant first.limits b.origin at new
  series_wants at place =
      let taken : Consumed b.origin ((b.begun.start ++ entry_bytes fs) ++ e.final.1) new = subst (λ (bytes : List ℕ). Consumed b.origin bytes new) bytes_split takes_all in
      memory_at first.limits b.origin new head (entry_records fs) (element_record e.final.0) (b.begun.start ++ entry_bytes fs) e.final.1 at taken (front_of fs b.begun.spelled each_front)
      (allowed_prefix first.limits (entry_records fs) (element_record e.final.0 ∷ []) allowed_split) ((final_item e).spelled head.flag_in_end).spelled
      (allowed_last first.limits (entry_records fs) (element_record e.final.0) allowed_split)
      (omega (
        arith,
        place,
        e.last_is,
        takes.given,
        taken.given,
        length-append (b.begun.start ++ entry_bytes fs) e.final.1,
        ap length (series_bytes e),
        e.has.length_is,
      ))

  -- ---- they are seen

  pub series_seen : (after : ReaderState C) → ((qs series' : List Record) → Represents t s qs → IsSeries qs series' last series.count series.weight → Represents t after (qs ++ series')) → after.unit ≡ s.unit → after.limits ≡ s.limits
      → after.profile ≡ s.profile → HasSeen t profile head b.begun.start b.origin first new after judged
  series_seen after taken unit limits by =
      let is : IsSeries rs (map element_record (es ++ e.final.0 ∷ [])) last series.count series.weight =
      subst (λ (p : Record × ℕ × ℕ). IsSeries rs (map element_record (es ++ e.final.0 ∷ [])) p.0 p.1 p.2) (λ i. (e.is i, sym (count_all e) i, sym (weight_all e) i)) (element_series first.limits rs es e.final.0 roomy) in
      let stands : Represents t after (entry_records (m.entries ++ xs)) = subst (λ (qs : List Record). Represents t after qs) (sym records_all) (taken rs (map element_record (es ++ e.final.0 ∷ [])) m.taken.stands is) in
      let same = m.taken.same in
      record {
        entries = m.entries ++ xs;
        takes = takes_all;
        each = each_all;
        taken = record { stands = stands; allowed = allowed_all; same = record { unit = unit ∙ same.unit; limits = limits ∙ same.limits; profile = by ∙ same.profile } };
        judging = e.has.goes_on first.limits profile head b.begun.start m.entries (record { each = each_all; allowed = allowed_all }) m.judging;
      }

-- ---- in any such read

module _ {C : Type 0} {t : Store C} {head : Head} {mid new : Script} {s : ReaderState C} {k judged : FileJudge} {all : List ℕ} {most heaviest : ℕ} {last : Record} {series : Series} (room : HasRoom s most heaviest)
    (e : EndsSeries all most heaviest k last series judged) (takes : Consumed mid (take series.length all) new) (at : ℕ) (place : at + series.last ≡ mid.given + series.length) where
  -- it is taken
  pub series_judged : (after : ReaderState C) → ((qs series' : List Record) → Represents t s qs → IsSeries qs series' last series.count series.weight → Represents t after (qs ++ series')) → after.unit ≡ s.unit → after.limits ≡ s.limits
      → after.profile ≡ s.profile → JudgesSeries t head mid s k (Ok (Some at)) new after judged
  series_judged after taken unit limits by = (
    omega (arith, takes.given, ap length (series_bytes e), e.has.length_is, series_long e),
    λ profile now first judge b m. (series_seen b m room e takes after taken unit limits by, series_wants b m room e takes at place),
  )

  -- or memory runs out for its last record
  pub series_refused : (refusal : Refusal) → (refusal.at ≡ at) × (refusal.why ≡ Memory) → SeesRefused t head mid s k refusal new
  series_refused refusal is profile now first judge b m =
      subst (λ (v : Refusal). Refuses first.limits b.origin v new) (λ i. record { at = sym is.0 i; why = sym is.1 i }) (series_wants b m room e takes at place)
