-- A file in the shortest style has the records of cells.
use Rattle.std.proofs.Common.{◌≡◌, ℕ, Bool, false, List, [], ◌∷◌, ◌++◌, map, inl, inr, refl, sym, ap, subst, ◌∙◌}
use Rattle.std.specs.Prelude.{◌==◌, None}
use Rattle.std.specs.List.{AllByRecursion}
use Rattle.oas_num.specs.Grammar.{IsSuch, IsEach}
use Rattle.oas_num.specs.Ratio.{Ratio, IsLowest}
use Rattle.oas_num.specs.Style.{Shortest}
use Rattle.oas_record.specs.declared.heads.Head.{Head}
use Rattle.oas_record.specs.declared.records.Record.{Record}
use Rattle.oas_record.specs.Heads.{head_of, head_in}
use Rattle.oas_record.specs.Records.{record_in, IsInner}
use Rattle.oas_elements.specs.declared.element.Element.{Element}
use Rattle.oas_elements.specs.declared.element.Element.TheVariants.{Placement}
use Rattle.oas_elements.specs.declared.limits.Limits.{Limits}
use Rattle.oas_elements.specs.Weight.{lacks_points}
use Rattle.oas_elements.specs.Meaning.{Meaning}
use Rattle.oas_file.specs.Stands as stands
use Rattle.oas_file.specs.Stands.{records_mean, refused_after}
use Rattle.oas_file.specs.Files.{FileIn}
use Rattle.oas_file.specs.Acceptance.{Allowed}
use Rattle.oas_form.specs.Records.{Cells, element_record, records_of}
use Rattle.oas_form.specs.RecordMeaning.{HavePoints, ShortestIsCanonical, ShortestHasPoints, ShortestHead}
use Rattle.oas_form.proofs.MeantLemmas.{onto, reverse-is, canonical_means}
use Rattle.oas_form.proofs.KindLemmas.{IsPlain}
use Rattle.oas_form.proofs.AllKinds.{plain_of}

-- ---- the records of a file, one by one

all_plain : (in_end : Bool) (rs : List Record) (bytes : List ℕ) → IsEach (IsSuch IsInner (record_in Shortest in_end)) rs bytes → AllByRecursion IsPlain rs
all_plain in_end [] bytes h = tt
all_plain in_end (r ∷ rs) bytes h = (plain_of in_end r h.0 h.2.holds h.2.spelled, all_plain in_end rs h.1 h.3)

-- elements, and then cells
pub record IsSplit (rs : List Record) : Type 0 where
  pub leading : List Element
  pub cells : Cells
  pub is : rs ≡ map element_record leading ++ records_of cells
  pub leading_points : AllByRecursion (λ e. lacks_points e ≡ false) leading
  pub points : HavePoints cells

split : (rs : List Record) → AllByRecursion IsPlain rs → IsSplit rs
split [] h = record { leading = []; cells = []; is = refl; leading_points = tt; points = tt }
split (r ∷ rs) h =
    let rest = split rs h.1 in
    elim h.0 [
      | inl named ↦ record {
        leading = [];
        cells = (named.0, rest.leading) ∷ rest.cells;
        is = λ i. sym named.1 i ∷ rest.is i;
        leading_points = tt;
        points = (rest.leading_points, rest.points);
      }
      | inr drawn ↦ record {
        leading = drawn.element ∷ rest.leading;
        cells = rest.cells;
        is = λ i. sym drawn.is i ∷ rest.is i;
        leading_points = (drawn.points, rest.leading_points);
        points = rest.points;
      }
    ]

-- ---- before the first CELL there is no element

-- what is allowed as all records is allowed as the first
allowed_prefix : (limits : Limits) (rs before : List Record) → stands.Allowed limits (onto rs before) → stands.Allowed limits before
allowed_prefix limits [] before h = h
allowed_prefix limits (r ∷ rs) before h = (allowed_prefix limits rs (r ∷ before) h).0

-- an element is not allowed there
out_of_place : (limits : Limits) (e : Element) → refused_after limits [] (element_record e) ≡ None → ⊥
out_of_place limits (Placement name x y turns flip) h = absurd cc
out_of_place limits e h = absurd cc

none_leads : (limits : Limits) (es : List Element) (cs : Cells) → Allowed limits (map element_record es ++ records_of cs) → es ≡ []
none_leads limits [] cs h = refl
none_leads limits (e ∷ es) cs h =
    let rest : List Record = map element_record es ++ records_of cs in
    let newest = subst (stands.Allowed limits) (reverse-is (element_record e ∷ rest)) h in
    absurd (out_of_place limits e (allowed_prefix limits rest (element_record e ∷ []) newest).1)

-- the records of cells
pub record IsOfCells (rs : List Record) : Type 0 where
  pub cells : Cells
  pub is : rs ≡ records_of cells
  pub points : HavePoints cells

of_cells : (limits : Limits) (head : Head) (rs : List Record) (c : List ℕ) → FileIn Shortest head rs c → Allowed limits rs → IsOfCells rs
of_cells limits head rs c file allowed =
    let body = file.spelled.second.first in
    let s = split rs (all_plain head.flag_in_end rs file.spelled.second.front body) in
    let none : s.leading ≡ [] = none_leads limits s.leading s.cells (subst (Allowed limits) s.is allowed) in
    record { cells = s.cells; is = s.is ∙ ap (λ (es : List Element). map element_record es ++ records_of s.cells) none; points = s.points }

-- they are the cells of the meaning
meant : (unit : Ratio) (rs : List Record) → (h : IsOfCells rs) → (records_mean unit rs).cells ≡ h.cells
meant unit rs h = ap (λ (m : Meaning). m.cells) (ap (records_mean unit) h.is ∙ canonical_means unit h.cells h.points)

pub shortest_is_canonical : ShortestIsCanonical
shortest_is_canonical limits head rs c file allowed = let h = of_cells limits head rs c file allowed in h.is ∙ ap records_of (sym (meant head.unit rs h))

pub shortest_has_points : ShortestHasPoints
shortest_has_points limits head rs c file allowed = let h = of_cells limits head rs c file allowed in subst HavePoints (sym (meant head.unit rs h)) h.points

-- ---- the head of the file

pub shortest_flag : (head : Head) (start : List ℕ) → head_in Shortest head start → head.flag_in_end ≡ false
shortest_flag head start h =
    let s = h.spelled.second in
    sym (ap (λ (p : Head). p.flag_in_end) (s.is ∙ h.is)) ∙ ap (λ (flag : ℕ). flag == 1) s.spelled.second.second.second.first.holds

pub shortest_head : ShortestHead
shortest_head head rs c file =
    let front = file.spelled.first in
    let start = front.spelled.second in
    let is : head_of start.from ≡ head = start.is ∙ front.is in
    let parts = start.spelled.second.second in
    (subst (λ (h : Head). IsLowest h.unit) is parts.first.lowest, sym (ap (λ (h : Head). h.flag_in_end) is) ∙ ap (λ (flag : ℕ). flag == 1) parts.second.first.holds)
