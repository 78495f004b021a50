-- Two files that are prepared: their canonical files are equal exactly if both mean the same layout.
use Rattle.std.proofs.Common.{◌≡◌, ◌↔◌, ℕ, List, subst}
use Rattle.oas_num.specs.Script.{Script}
use Rattle.oas_elements.specs.declared.limits.Limits.{Limits}
use Rattle.oas_elements.specs.declared.profile.Profile.{Profile}
use Rattle.oas_elements.specs.Contents.{Contents, meaning_of}
use Rattle.oas_elements.specs.Meaning.{Meaning, SameLayout}
use Rattle.oas_elements.proofs.LawProofs.{reflexive, symmetric, transitive}
use Rattle.oas_canon.specs.Acceptance.{Means}
use Rattle.oas_canon.specs.FileLaws.{means_one}
use Rattle.oas_canon.specs.Bytes.{canonical_bytes}
use Rattle.oas_canon.proofs.Forms.{one_canonical_form}
use Rattle.oas_canon.proofs.Written.{canonical_form}
use Rattle.oas_narrow.specs.declared.dropping.Dropping.{Dropping}
use Rattle.oas_narrow.specs.declared.dropping.Report.{Report}
use Rattle.oas_prepare.specs.Finishing.{IsReadPrepared}
use Rattle.oas_prepare.specs.Run.{IsPreparedAs}
use Rattle.oas_prepare.proofs.WideMeanings.{same_prepared}
use Rattle.oas_prepare.proofs.Whole.{taken}

-- what equal files mean is the same
same_meanings : (profile : Profile) (c e : List ℕ) (m n : Meaning) → Means c m → Means e n → c ≡ e → SameLayout profile m n
same_meanings profile c e m n p q is =
    let one : m ≡ n = means_one e m n (subst (λ (b : List ℕ). Means b m) is p) q in
    subst (λ (x : Meaning). SameLayout profile m x) one (reflexive profile m)

module _ {limits : Limits} {profile : Profile} {dropping : Dropping} where
  pub same_exactly : {b d c e : List ℕ} {r s : Report} (p : IsPreparedAs limits profile dropping b c r) (q : IsPreparedAs limits profile dropping d e s) →
      (c ≡ e) ↔ SameLayout profile p.source q.source
  same_exactly {b} {d} {c} {e} {r} {s} p q = (
    λ is. transitive profile p.source p.target q.source p.same
        (transitive profile p.target q.target q.source (same_meanings profile c e p.target q.target p.becomes q.becomes is) (symmetric profile q.source q.target q.same)),
    λ same. same_prepared limits limits profile dropping dropping b d c e r s p.source q.source p q p.means q.means same,
  )

  -- the same for the layouts that were read
  pub equal_exactly : {old new mid last : Script} {l k : Contents} {r s : Report} → IsReadPrepared limits profile dropping old l r new → IsReadPrepared limits profile dropping mid k s last →
      (canonical_bytes (meaning_of l) ≡ canonical_bytes (meaning_of k)) ↔ SameLayout profile (meaning_of l) (meaning_of k)
  equal_exactly {l = l} {k = k} one other =
      let m = meaning_of l in
      let n = meaning_of k in
      let p = (canonical_form l one.layout).1 in
      let q = (canonical_form k other.layout).1 in (
        same_meanings profile (canonical_bytes m) (canonical_bytes n) m n p q,
        one_canonical_form limits limits profile (canonical_bytes m) (canonical_bytes n) m n (taken one).is.form (taken other).is.form p q,
      )
