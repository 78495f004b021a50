-- Canonical forms: one layout has one, whatever its limits.
use Rattle.std.proofs.Common.{◌≡◌, ℕ, false, List, sym, ◌∙◌, ap, subst}
use Rattle.oas_num.specs.Style.{Any, Shortest}
use Rattle.oas_num.specs.Ratio.{Ratio}
use Rattle.oas_record.specs.declared.heads.Head.{Head}
use Rattle.oas_record.specs.declared.records.Record.{Record}
use Rattle.oas_elements.specs.declared.limits.Limits.{Limits}
use Rattle.oas_elements.specs.declared.profile.Profile.{Profile}
use Rattle.oas_elements.specs.Meaning.{Meaning, SameLayout}
use Rattle.oas_elements.proofs.LawProofs.{reflexive, symmetric, transitive}
use Rattle.oas_file.specs.Stands.{records_mean}
use Rattle.oas_file.specs.Files.{FileIn}
use Rattle.oas_file.specs.Laws.FileLaws.{one_reading, one_spelling, means_one}
use Rattle.oas_file.specs.Acceptance.{Allowed, IsWhole, Means}
use Rattle.oas_form.specs.Records.{records_of}
use Rattle.oas_form.specs.RecordMeaning.{HavePoints}
use Rattle.oas_form.specs.Canonical.{IsOrdered, CanonicalForm, IsCanonicalOf, OneCanonicalForm, LimitsApart, FormsEqual, CanonicalAgain}
use Rattle.oas_form.proofs.OrderedLayouts.{equal_in_order}
use Rattle.oas_form.proofs.ShortestLemmas.{shortest_is_canonical, shortest_has_points, shortest_head}

-- START of a canonical file
abbrev pub plain_head : Ratio → Head
plain_head unit = record { unit = unit; flag_in_end = false }

-- the meaning of its own records is its meaning
pub form_means : (limits : Limits) (profile : Profile) (c : List ℕ) (m : Meaning) → (h : CanonicalForm limits profile c) → Means c m → records_mean h.head.unit h.records ≡ m
form_means limits profile c m h k =
    let both = one_reading Shortest Any h.head k.head h.records k.records c h.file k.file in
    ap (λ (p : Head × List Record). records_mean p.0.unit p.1) (λ i. (both.0 i, both.1 i)) ∙ k.is

-- the meaning of a canonical form is in order, and it has the records of that
pub record Shaped (limits : Limits) (profile : Profile) (c : List ℕ) (m : Meaning) : Type 0 where
  pub file : FileIn Shortest (plain_head m.unit) (records_of m.cells) c
  pub points : HavePoints m.cells
  pub allowed : Allowed limits (records_of m.cells)
  pub whole : IsWhole limits (records_of m.cells)
  pub ordered : IsOrdered profile m.cells

pub shaped : (limits : Limits) (profile : Profile) (c : List ℕ) (m : Meaning) → CanonicalForm limits profile c → Means c m → Shaped limits profile c m
shaped limits profile c m h k =
    let mean : records_mean h.head.unit h.records ≡ m = form_means limits profile c m h k in
    let rs : h.records ≡ records_of m.cells = shortest_is_canonical limits h.head h.records c h.file h.allowed ∙ ap (λ (n : Meaning). records_of n.cells) mean in
    let flag : h.head.flag_in_end ≡ false = (shortest_head h.head h.records c h.file).1 in
    let head : h.head ≡ plain_head m.unit = λ i. record { unit = ap (λ (n : Meaning). n.unit) mean i; flag_in_end = flag i } in
    record {
      file = subst (λ (p : Head × List Record). FileIn Shortest p.0 p.1 c) (λ i. (head i, rs i)) h.file;
      points = subst (λ (n : Meaning). HavePoints n.cells) mean (shortest_has_points limits h.head h.records c h.file h.allowed);
      allowed = subst (Allowed limits) rs h.allowed;
      whole = subst (IsWhole limits) rs h.whole;
      ordered = subst (λ (n : Meaning). IsOrdered profile n.cells) mean h.ordered;
    }

pub one_canonical_form : OneCanonicalForm
one_canonical_form one other profile c d m n h k p q s =
    let f = shaped one profile c m h p in
    let g = shaped other profile d n k q in
    let same : m ≡ n = equal_in_order profile m n f.ordered g.ordered s in
    one_spelling (plain_head n.unit) (records_of n.cells) c d (subst (λ (l : Meaning). FileIn Shortest (plain_head l.unit) (records_of l.cells) c) same f.file) g.file

-- two canonical forms of files that mean the same
forms_alike : (one other : Limits) (profile : Profile) (b d c e : List ℕ) (m n : Meaning) → IsCanonicalOf one profile b c → IsCanonicalOf other profile d e → Means b m → Means d n →
    SameLayout profile m n → c ≡ e
forms_alike one other profile b d c e m n p q k j s =
    let left : SameLayout profile p.target m = subst (SameLayout profile p.target) (means_one b p.source m p.means k) (symmetric profile p.source p.target p.same) in
    let right : SameLayout profile n q.target = subst (λ (l : Meaning). SameLayout profile l q.target) (means_one d q.source n q.means j) q.same in
    one_canonical_form one other profile c e p.target q.target p.form q.form p.becomes q.becomes (transitive profile p.target m q.target left (transitive profile m n q.target s right))

pub limits_apart : LimitsApart
limits_apart one other profile b c d p q = forms_alike one other profile b b c d p.source p.source p q p.means p.means (reflexive profile p.source)

pub forms_equal : FormsEqual
forms_equal one other profile b d c e m n p q k j = (
  λ s. forms_alike one other profile b d c e m n p q k j s,
  λ same.
      let target : p.target ≡ q.target = means_one e p.target q.target (subst (λ (f : List ℕ). Means f p.target) same p.becomes) q.becomes in
      let left : SameLayout profile m p.target = subst (λ (l : Meaning). SameLayout profile l p.target) (means_one b p.source m p.means k) p.same in
      let right : SameLayout profile q.target n = subst (SameLayout profile q.target) (means_one d q.source n q.means j) (symmetric profile q.source q.target q.same) in
      transitive profile m q.target n (subst (SameLayout profile m) target left) right,
)

pub canonical_again : CanonicalAgain
canonical_again limits profile c d h k = sym (one_canonical_form limits limits profile c d k.source k.target h k.form k.means k.becomes k.same)
