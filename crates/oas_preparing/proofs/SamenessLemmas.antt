-- Two files that were read, and whether they are prepared to the same layout.
use Rattle.std.proofs.Common.{◌≡◌, ◌↔◌, Bool, IsTrue, Ok, Err, sym, subst}
use Rattle.oas_num.specs.Script.{Script}
use Rattle.oas_elements.specs.declared.limits.Limits.{Limits}
use Rattle.oas_elements.specs.declared.profile.Profile.{Profile}
use Rattle.oas_elements.specs.Contents.{Contents, meaning_of}
use Rattle.oas_elements.specs.Meaning.{SameLayout}
use Rattle.oas_explain.specs.ProfileConstants.{PROFILE}
use Rattle.oas_explain.specs.Which.{Which}
use Rattle.oas_explain.specs.Which.TheVariants.{First, Second}
use Rattle.oas_explain.specs.Bytes.{canonical_bytes}
use Rattle.oas_prepare.specs.NarrowDropping.{Dropping}
use Rattle.oas_prepare.specs.Report.{Report}
use Rattle.oas_prepare.specs.Rejection.{Rejection}
use Rattle.oas_prepare.specs.Finishing.{IsReadPrepared}
use Rattle.oas_prepare.proofs.Whole.{taken, exactly_done, exactly_stopped}
use Rattle.oas_prepare.proofs.Sameness.{same_exactly, equal_exactly}
use Rattle.oas_preparing.specs.Sameness.{ReadsBoth, ComparesPrepared}

module _ {T : Type 0} (script : T → Script) {limits : Limits} {dropping : Dropping} {old new : Script} {before after : T} where
  pub compared : {l k : Contents} {a b : Report} (same : Bool) → IsReadPrepared limits PROFILE dropping old l a new → IsReadPrepared limits PROFILE dropping (script before) k b (script after) →
      (IsTrue same ↔ SameLayout l.profile (meaning_of l) (meaning_of k)) →
      ComparesPrepared script limits dropping old new before after (Ok (record { same = same; first = a; second = b }))
  compared {l = l} {k = k} same one other h =
      let first = taken one in
      let second = taken other in
      let alike = equal_exactly one other in
      let equal : IsTrue same ↔ (canonical_bytes (meaning_of l) ≡ canonical_bytes (meaning_of k)) = (
        λ t. alike.1 (subst (λ (p : Profile). SameLayout p (meaning_of l) (meaning_of k)) one.by (h.0 t)),
        λ e. h.1 (subst (λ (p : Profile). SameLayout p (meaning_of l) (meaning_of k)) (sym one.by) (alike.0 e)),
      ) in
      let means = same_exactly first.is second.is in
      record {
        compared = record {
          first = canonical_bytes (meaning_of l);
          second = canonical_bytes (meaning_of k);
          taken_first = first;
          taken_second = second;
          answer = (λ t. means.0 (equal.0 t), λ s. equal.1 (means.1 s));
          equal = equal;
        };
        first = tt;
        second = tt;
        exactly = (exactly_done one, exactly_done other);
      }

  pub uncompared : (e : Which × Rejection) → ReadsBoth script limits dropping old new before after (Err e) → ComparesPrepared script limits dropping old new before after (Err e)
  uncompared (First, rejection) h = record { compared = tt; first = λ _. h; second = λ e. absurd cc; exactly = exactly_stopped rejection h.0.0 }
  uncompared (Second, rejection) h = record { compared = tt; first = λ e. absurd cc; second = λ _. h; exactly = exactly_stopped rejection h.1.0 }
