-- Reading a file by one profile gives one layout.
use Rattle.std.proofs.Common.{◌≡◌, ℕ, List, subst}
use Rattle.oas_num.specs.Script.{Script}
use Rattle.oas_elements.specs.declared.limits.Limits.{Limits}
use Rattle.oas_elements.specs.declared.profile.Profile.{Profile}
use Rattle.oas_elements.specs.Contents.{Contents, expanded, meaning_of}
use Rattle.oas_elements.specs.Meaning.{Meaning, SameLayout}
use Rattle.oas_elements.proofs.LawProofs.{symmetric, transitive}
use Rattle.oas_file.specs.Acceptance.{Means}
use Rattle.oas_file.specs.Laws.FileLaws.{means_one}
use Rattle.oas_file.specs.Reading.{IsRead}
use Rattle.oas_form.specs.Canonical.{IsOrdered}
use Rattle.oas_form.specs.Layouts.{OneLayoutRead}
use Rattle.oas_form.proofs.OrderedLayouts.{equal_in_order, layout_in_order}

-- it is in order
in_order : {limits : Limits} {profile : Profile} {old new : Script} {l : Contents} → IsRead limits profile old l new → IsOrdered profile (expanded l.cells)
in_order {l = l} r = subst (λ (p : Profile). IsOrdered p (expanded l.cells)) r.by (layout_in_order l r.layout)

pub one_layout : OneLayoutRead
one_layout one other profile old new mid last l k r s same =
    let means : r.meaning ≡ s.meaning = means_one s.bytes r.meaning s.meaning (subst (λ (b : List ℕ). Means b r.meaning) same r.means) s.means in
    let there : SameLayout profile (meaning_of l) s.meaning = symmetric profile s.meaning (meaning_of l) (subst (λ (m : Meaning). SameLayout profile m (meaning_of l)) means r.same) in
    equal_in_order profile (meaning_of l) (meaning_of k) (in_order r) (in_order s) (transitive profile (meaning_of l) s.meaning (meaning_of k) there s.same)
