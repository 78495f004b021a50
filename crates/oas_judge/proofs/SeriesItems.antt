-- A series of records at hand, record by record.
use Rattle.std.proofs.Common.{◌≡◌, ℕ, ◌+◌, ◌<◌, ◌≤◌, Bool, false, List, [], ◌∷◌, ◌++◌, length, Option, None, Some, refl, sym, ap, subst, ◌∙◌, append_assoc, arith}
use Rattle.std.proofs.lemmas.List.{append-nil, length-append, take-append-drop, drop_at, length-take}
use Rattle.std.proofs.lemmas.List.Sums.{sum_by-append, sum_by-cons}
use Rattle.std.specs.Borrow.{Bor}
use Rattle.std.specs.Prelude.{ℤ, drop, take, sum_by}
use Rattle.std.specs.List.{AllByRecursion}
use Rattle.std.specs.Option.{option_map}
use Rattle.oas_num.specs.Style.{Any}
use Rattle.oas_record.specs.declared.heads.Head.{Head}
use Rattle.oas_record.specs.declared.records.Record.{Record}
use Rattle.oas_record.specs.declared.records.Record.TheVariants as record_of
use Rattle.oas_record.specs.declared.rectangles.Rectangle.{Rectangle as OneRectangle}
use Rattle.oas_record.specs.declared.references.CellRef.{CellRef}
use Rattle.oas_record.specs.declared.references.CellRef.TheVariants as cell
use Rattle.oas_record.specs.declared.references.TextRef.{TextRef}
use Rattle.oas_record.specs.declared.references.TextRef.TheVariants as text
use Rattle.oas_record.specs.Records.{id_of, record_in}
use Rattle.oas_peek.specs.declared.named.Given.TheVariants.{Modal, Number, Bytes}
use Rattle.oas_peek.specs.declared.named.NamedOnce.{NamedOnce}
use Rattle.oas_peek.specs.declared.named.NamedOnce.TheVariants as once
use Rattle.oas_peek.specs.Named.{named_record}
use Rattle.oas_elements.specs.declared.element.Element.{Element}
use Rattle.oas_elements.specs.declared.element.Element.TheVariants.{Placement, Text, Rectangle, Polygon, Path, Circle}
use Rattle.oas_elements.specs.declared.limits.Limits.{Limits}
use Rattle.oas_elements.specs.declared.profile.Profile.{Profile}
use Rattle.oas_elements.specs.Element.{kind}
use Rattle.oas_elements.specs.Weight.{weight_of}
use Rattle.oas_writing.specs.Gathering.{inner_in}
use Rattle.oas_writing.specs.Judging.{Entry, entry_bytes}
use Rattle.oas_writing.specs.Records.{element_record}
use Rattle.oas_writing.specs.Stands as stands
use Rattle.oas_writing.proofs.JudgeRecords.{all_more, records_more}
use Rattle.oas_writing.proofs.SomePlaces.{record_long}
use Rattle.oas_judge.specs.declared.judge.FileJudge.{FileJudge}
use Rattle.oas_judge.specs.declared.series.Series.{Series}
use Rattle.oas_judge.specs.Candidates.{IsCandidate}
use Rattle.oas_judge.specs.FileJudges.{IsJudging, AreEntries, GoesOnTaking}
use Rattle.oas_judge.specs.Series.{SeesElement, WeighsAs, weight_given, IsLike, Item, item_entries, item_elements, IsItem, GoesOnOver, HasSeries, EndsSeries, IsNoSeries, SeriesSoFar}
use Rattle.oas_judge.proofs.RecordSteps.{bytes_with}

-- ---- entries

-- those before the last
pub entries_front : (limits : Limits) (head : Head) (entries : List Entry) (x : Entry) → AreEntries limits head (entries ++ x ∷ []) → AreEntries limits head entries
entries_front limits head entries x read = record {
  each = ((all_more (λ (e : Entry). inner_in head.flag_in_end e.0 e.1) entries x).0 read.each).0;
  allowed = (subst (stands.Allowed limits) (records_more entries x) read.allowed).0;
}

-- ---- the judge

goes_over_none : (j : FileJudge) → GoesOnOver j [] j
goes_over_none j limits profile head start before read judging = subst (IsJudging profile j head start) (sym (append-nil before)) judging

-- one more record
goes_over_more : (old mid new : FileJudge) (xs : List Entry) (r : Record) (bytes : List ℕ) → GoesOnOver old xs mid → GoesOnTaking bytes mid r new → GoesOnOver old (xs ++ (r, bytes) ∷ []) new
goes_over_more old mid new xs r bytes f g limits profile head start before read judging =
    let back : (before ++ xs) ++ (r, bytes) ∷ [] ≡ before ++ (xs ++ (r, bytes) ∷ []) = append_assoc before xs ((r, bytes) ∷ []) in
    let all : AreEntries limits head ((before ++ xs) ++ (r, bytes) ∷ []) = subst (AreEntries limits head) (sym back) read in
    let there : IsJudging profile mid head start (before ++ xs) = f limits profile head start before (entries_front limits head (before ++ xs) (r, bytes) all) judging in
    subst (IsJudging profile new head start) back
    (g.goes_on limits profile head start (before ++ xs) r bytes all (λ told. subst (λ (p : Profile). IsCandidate p g.candidate r) there.by (g.says told)) (λ told. refl) there)

-- ---- items

pub entries_with : (items : List Item) (i : Item) → item_entries (items ++ i ∷ []) ≡ item_entries items ++ (element_record i.0, i.1) ∷ []
entries_with [] i = refl
entries_with (k ∷ ks) i = ap (λ (xs : List Entry). (element_record k.0, k.1) ∷ xs) (entries_with ks i)

pub elements_with : (items : List Item) (i : Item) → item_elements (items ++ i ∷ []) ≡ item_elements items ++ i.0 ∷ []
elements_with [] i = refl
elements_with (k ∷ ks) i = ap (λ (es : List Element). k.0 ∷ es) (elements_with ks i)

-- their bytes
pub items_with : (items : List Item) (i : Item) → entry_bytes (item_entries (items ++ i ∷ [])) ≡ entry_bytes (item_entries items) ++ i.1
items_with items i = ap entry_bytes (entries_with items i) ∙ bytes_with (item_entries items) (element_record i.0, i.1)

weight_with : (items : List Item) (i : Item) → sum_by weight_of (item_elements (items ++ i ∷ [])) ≡ sum_by weight_of (item_elements items) + weight_of i.0
weight_with items i = omega (arith, ap (sum_by weight_of) (elements_with items i), sum_by-append weight_of (item_elements items) (i.0 ∷ []), sum_by-cons weight_of i.0 [])

-- elements whose records have the same id are of one kind
kind_by_id : (e f : Element) → id_of (element_record e) ≡ id_of (element_record f) → kind e ≡ kind f
kind_by_id (Placement a b c d e) (Placement a' b' c' d' e') same = refl
kind_by_id (Text a b c d e) (Text a' b' c' d' e') same = refl
kind_by_id (Rectangle a b c d e f) (Rectangle a' b' c' d' e' f') same = refl
kind_by_id (Polygon a b c) (Polygon a' b' c') same = refl
kind_by_id (Path a b c d e f) (Path a' b' c' d' e' f') same = refl
kind_by_id (Circle a b c d e) (Circle a' b' c' d' e') same = refl
kind_by_id e f same = absurd (omega (arith, same))

-- ---- the weight of a record's element

pub rectangle_weighs : (r : OneRectangle) → WeighsAs (record_of.Rectangle r) 1
rectangle_weighs r (Rectangle layer datatype width height x y) is = refl
rectangle_weighs r e is = absurd cc

-- the name that a record gives
abbrev cell_bytes : Option CellRef → List ℕ
cell_bytes (Some (cell.Name name)) = name
cell_bytes _ = []

abbrev text_bytes : Option TextRef → List ℕ
text_bytes (Some (text.Label label)) = label
text_bytes _ = []

abbrev name_bytes : Record → List ℕ
name_bytes (record_of.Placement p) = cell_bytes p.cell
name_bytes (record_of.Text t) = text_bytes t.string
name_bytes _ = []

placement_weighs : (name : Bor (List ℕ)) (quarters : ℕ) (flip : Bool) (x y : Option ℤ) → WeighsAs (named_record (once.Placement (Bytes name) quarters flip x y)) (1 + length name.now)
placement_weighs name quarters flip x y (Placement placed px py turns flipped) is = ap (λ (r : Record). 1 + length (name_bytes r)) is
placement_weighs name quarters flip x y e is = absurd cc

text_weighs : (string : Bor (List ℕ)) (textlayer texttype : Option ℕ) (x y : Option ℤ) → WeighsAs (named_record (once.Text (Bytes string) textlayer texttype x y)) (1 + length string.now)
text_weighs string textlayer texttype x y (Text written l t px py) is = ap (λ (r : Record). 1 + length (name_bytes r)) is
text_weighs string textlayer texttype x y e is = absurd cc

same_weight : (a b : ℕ) → ◌≡◌ {A = Option ℕ} (Some a) (Some b) → a ≡ b
same_weight a b h = cc

pub named_weighs : (n : NamedOnce) (weight : ℕ) → weight_given n ≡ Some weight → WeighsAs (named_record n) weight
named_weighs (once.Placement (Bytes name) quarters flip x y) weight is e r = placement_weighs name quarters flip x y e r ∙ same_weight (1 + length name.now) weight is
named_weighs (once.Text (Bytes string) textlayer texttype x y) weight is e r = text_weighs string textlayer texttype x y e r ∙ same_weight (1 + length string.now) weight is
named_weighs (once.Placement (Number number) quarters flip x y) weight is e r = absurd cc
named_weighs (once.Placement Modal quarters flip x y) weight is e r = absurd cc
named_weighs (once.Text (Number number) textlayer texttype x y) weight is e r = absurd cc
named_weighs (once.Text Modal textlayer texttype x y) weight is e r = absurd cc

-- rectangles have one id
pub like_rectangle : (o : Option OneRectangle) (r : OneRectangle) → IsLike (option_map (λ q. record_of.Rectangle q) o) (record_of.Rectangle r)
like_rectangle None r = tt
like_rectangle (Some q) r = refl

-- ---- a series

-- a record was read behind it, and the judge has seen it
pub record IsBehind (all : List ℕ) (most heaviest : ℕ) (mid : FileJudge) (series : Series) (r : Record) (n weight : ℕ) (after : Series) (new : FileJudge) : Type 0 where
  pub within : n ≤ length (drop series.length all)
  pub spelled : (in_end : Bool) → inner_in in_end r (take n (drop series.length all))
  pub seen : SeesElement (take n (drop series.length all)) mid r new
  pub weighs : weight_of seen.element ≡ weight
  pub few : series.count + 1 ≤ most
  pub light : series.weight + weight ≤ heaviest
  pub is : after ≡ record { count = series.count + 1; weight = series.weight + weight; length = series.length + n; last = n }

taken_length : (n : ℕ) (xs : List ℕ) → n ≤ length xs → length (take n xs) ≡ n
taken_length n xs h = grind (arith, length-take)

-- a record has at least one byte
pub record_some : (r : Record) (n : ℕ) (xs : List ℕ) → n ≤ length xs → record_in Any false r (take n xs) → 0 < n
record_some r n xs h s = omega (arith, record_long false r (take n xs) s, taken_length n xs h)

module _ (all : List ℕ) (most heaviest : ℕ) (old mid : FileJudge) (series : Series) where
  has_none : IsNoSeries old series mid → HasSeries all most heaviest old series [] mid
  has_none is =
      let none : HasSeries all most heaviest old (record { count = 0; weight = 0; length = 0; last = 0 }) [] old = record {
        each = tt;
        rest = all;
        joined = refl;
        length_is = refl;
        count_is = refl;
        weight_is = refl;
        few = omega arith;
        light = omega arith;
        goes_on = goes_over_none old;
      } in
      subst (λ (v : Series). HasSeries all most heaviest old v [] mid) (sym is.series_is)
      (subst (λ (j : FileJudge). HasSeries all most heaviest old (record { count = 0; weight = 0; length = 0; last = 0 }) [] j) (sym is.same) none)

  module _ (r : Record) (n weight : ℕ) (after : Series) (new : FileJudge) (b : IsBehind all most heaviest mid series r n weight after new) where
    abbrev one : Item
    one = (b.seen.element, take n (drop series.length all))

    has_more : (items : List Item) → HasSeries all most heaviest old series items mid → HasSeries all most heaviest old after (items ++ one ∷ []) new
    has_more items h =
        let left : drop series.length all ≡ h.rest = ap (drop series.length) h.joined ∙ drop_at (entry_bytes (item_entries items)) h.rest series.length (sym h.length_is) in
        let size : length (take n (drop series.length all)) ≡ n = taken_length n (drop series.length all) b.within in
        let spelled : (in_end : Bool) → inner_in in_end (element_record b.seen.element) (take n (drop series.length all)) =
        λ in_end. subst (λ (s : Record). inner_in in_end s (take n (drop series.length all))) (sym b.seen.is) (b.spelled in_end) in
        let taking : GoesOnTaking (take n (drop series.length all)) mid (element_record b.seen.element) new =
        subst (λ (s : Record). GoesOnTaking (take n (drop series.length all)) mid s new) (sym b.seen.is) b.seen.taking in
        let split : h.rest ≡ take n (drop series.length all) ++ drop n (drop series.length all) = sym left ∙ sym (take-append-drop n (drop series.length all)) in
        subst (λ (v : Series). HasSeries all most heaviest old v (items ++ one ∷ []) new) (sym b.is) (record {
          each = (all_more IsItem items one).1 (h.each, record { fit = b.seen.fit; spelled = spelled });
          rest = drop n (drop series.length all);
          joined = h.joined ∙ (ap (λ (xs : List ℕ). entry_bytes (item_entries items) ++ xs) split
              ∙ (sym (append_assoc (entry_bytes (item_entries items)) (take n (drop series.length all)) (drop n (drop series.length all)))
              ∙ ap (λ (xs : List ℕ). xs ++ drop n (drop series.length all)) (sym (items_with items one))));
          length_is = omega (arith, h.length_is, size, ap length (items_with items one), length-append (entry_bytes (item_entries items)) (take n (drop series.length all)));
          count_is = omega (arith, h.count_is, length-append items (one ∷ []));
          weight_is = omega (arith, h.weight_is, b.weighs, weight_with items one);
          few = b.few;
          light = b.light;
          goes_on = subst (λ (xs : List Entry). GoesOnOver old xs new) (sym (entries_with items one)) (goes_over_more old mid new (item_entries items) (element_record b.seen.element) (take n (drop series.length all)) h.goes_on taking);
        })

    -- those before it are of its kind
    alike_more : (e : Element) (items : List Item) → AllByRecursion (λ i. kind i.0 ≡ kind e) items → kind e ≡ kind b.seen.element → AllByRecursion (λ i. kind i.0 ≡ kind b.seen.element) items
    alike_more e [] h same = tt
    alike_more e (k ∷ ks) h same = (h.0 ∙ same, alike_more e ks h.1 same)

    pub series_more : (last : Option Record) → SeriesSoFar all most heaviest old last series mid → IsLike last r → EndsSeries all most heaviest old r after new
    series_more None is like = record { front = []; final = one; has = has_more [] (has_none is); is = b.seen.is; last_is = size; alike = tt } where
      size : after.last ≡ length (take n (drop series.length all))
      size = ap (λ (v : Series). v.last) b.is ∙ sym (taken_length n (drop series.length all) b.within)
    series_more (Some l) is like =
        let same : kind is.final.0 ≡ kind b.seen.element = kind_by_id is.final.0 b.seen.element (ap id_of is.is ∙ (like ∙ ap id_of (sym b.seen.is))) in
        record {
          front = is.front ++ is.final ∷ [];
          final = one;
          has = has_more (is.front ++ is.final ∷ []) is.has;
          is = b.seen.is;
          last_is = ap (λ (v : Series). v.last) b.is ∙ sym (taken_length n (drop series.length all) b.within);
          alike = (all_more (λ (i : Item). kind i.0 ≡ kind b.seen.element) is.front is.final).1 (alike_more is.final.0 is.front is.alike same, same);
        }

-- a series is within the bytes
series_within : (all : List ℕ) (most heaviest : ℕ) (old : FileJudge) (series : Series) (items : List Item) (new : FileJudge) → HasSeries all most heaviest old series items new → series.length ≤ length all
series_within all most heaviest old series items new h = omega (arith, h.length_is, ap length h.joined, length-append (entry_bytes (item_entries items)) h.rest)

-- what holds of a series so far
pub so_far_within : (all : List ℕ) (most heaviest : ℕ) (old : FileJudge) (last : Option Record) (series : Series) (new : FileJudge) → SeriesSoFar all most heaviest old last series new
    → (series.length ≤ length all) × (series.count ≤ most) × (series.weight ≤ heaviest)
so_far_within all most heaviest old None series new is =
    let h = has_none all most heaviest old new series is in
    (series_within all most heaviest old series [] new h, h.few, h.light)
so_far_within all most heaviest old (Some l) series new is = (series_within all most heaviest old series (is.front ++ is.final ∷ []) new is.has, is.has.few, is.has.light)
