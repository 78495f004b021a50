-- A file of the standard means one layout, and files that mean the same are prepared to the same bytes.
use Rattle.std.proofs.Common.{◌≡◌, ◌*◌, ◌^◌, List, [], refl, sym, ap, subst, ◌∙◌}
use Rattle.oas_num.specs.Laws.RatioLaws.{one_lowest}
use Rattle.oas_num.specs.Ratio.{Ratio}
use Rattle.oas_elements.specs.Meaning.{Meaning, SameLayout}
use Rattle.oas_elements.proofs.LawProofs.{symmetric, transitive}
use Rattle.oas_narrow.specs.Stands.{records_mean}
use Rattle.oas_canon.proofs.Forms.{one_canonical_form}
use Rattle.oas_narrow.specs.WideStart.{WideStart}
use Rattle.oas_narrow.specs.WideRecord.{WideRecord}
use Rattle.oas_narrow.specs.Narrowing.{narrowed}
use Rattle.oas_narrow.specs.Preparable.{IsUnitOf}
use Rattle.oas_narrow.specs.WideFiles.{WideParts}
use Rattle.oas_prepare.specs.Laws.{OneWideMeaning, SamePrepared}
use Rattle.oas_prepare.proofs.OneFile.{PrefixFree-file, same_all}

one_unit : (s t : WideStart) (u v : Ratio) → s ≡ t → IsUnitOf s.unit u → IsUnitOf t.unit v → u ≡ v
one_unit s t u v e p q =
    let r = subst (λ (w : WideStart). IsUnitOf w.unit u) e p in
    one_lowest (t.unit.num * 2 ^ t.unit.doubled) (t.unit.den * 2 ^ t.unit.halved) u v r.reduces q.reduces

pub one_wide_meaning : OneWideMeaning
one_wide_meaning b m n p q =
    let both = PrefixFree-file.one (p.start, (p.file.items, p.end)) (q.start, (q.file.items, q.end)) b b [] [] p.file.spelled q.file.spelled refl in
    let unit = one_unit p.start q.start p.unit q.unit (ap (λ (w : WideParts). w.0) both.1) p.is_unit q.is_unit in
    let records : p.records ≡ q.records = same_all p.file q.file (ap (λ (w : WideParts). w.1.0) both.1) in
    sym p.is ∙ ap (λ (x : Ratio × List WideRecord). records_mean x.0 (narrowed x.1)) (λ i. (unit i, records i)) ∙ q.is

pub same_prepared : SamePrepared
same_prepared one other profile first second b d c e r s m n p q means_b means_d same =
    let source : SameLayout profile p.target p.source = symmetric profile p.source p.target p.same in
    let left : SameLayout profile p.target m = subst (λ (x : Meaning). SameLayout profile p.target x) (one_wide_meaning b p.source m p.means means_b) source in
    let right : SameLayout profile n q.target = subst (λ (x : Meaning). SameLayout profile x q.target) (one_wide_meaning d q.source n q.means means_d) q.same in
    one_canonical_form one other profile c e p.target q.target p.form q.form p.becomes q.becomes (transitive profile p.target m q.target left (transitive profile m n q.target same right))
