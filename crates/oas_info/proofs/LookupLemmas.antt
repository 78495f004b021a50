-- What a look-up finds in an ordered map after an insertion.
use Rattle.std.proofs.Common.{◌≡◌, Bool, true, false, cond, List, [], ◌∷◌, Option, None, Some, refl, sym, ap, ◌∙◌}
use Rattle.std.specs.Cmp.{IsTotalOrder}
use Rattle.std.specs.Ordering.{is_eq, match_ordering}
use Rattle.std.specs.declared.cmp.Ordering.{Ordering}
use Rattle.std.specs.declared.cmp.Ordering.TheVariants.{Less, Equal, Greater}
use Rattle.std.specs.Map.{lookup}
use Rattle.std.specs.BTreeMap.{is_at, insert_entry}
use Rattle.std.proofs.lemmas.Cmp.{alike_right, eq_by_cmp_equiv}

module _ {K X : Type 0} {R : K → K → Ordering} (o : IsTotalOrder R) (k q : K) (v : X) where
  -- behind an entry that stays before the new one
  behind : (x : X) (l m : Option X) (p : K) (r : Ordering) → R q p ≡ r → R k p ≡ Greater → l ≡ cond (is_eq (R k q)) (Some v) m
      → cond (is_eq r) (Some x) l ≡ cond (is_eq (R k q)) (Some v) (cond (is_eq r) (Some x) m)
  behind x l m p Less h after is = is
  behind x l m p Equal h after is = ap (λ (r : Ordering). cond (is_eq r) (Some v) (Some x)) (sym (alike_right o q p k h ∙ after))
  behind x l m p Greater h after is = is

  -- where the entry takes the value
  over : (x : X) (m : Option X) (b : Bool) → cond b (Some v) m ≡ cond b (Some v) (cond b (Some x) m)
  over x m true = refl
  over x m false = refl

  pub lookup-insert_entry : (es : List (K × X)) → lookup (is_at (R q)) (insert_entry R es k v) ≡ cond (is_eq (R k q)) (Some v) (lookup (is_at (R q)) es)
  lookup-insert_entry [] = ap (λ (b : Bool). cond b (Some v) None) ((eq_by_cmp_equiv o).symm q k)
  lookup-insert_entry (e ∷ es) =
      elim (R k e.0) as (λ r. R k e.0 ≡ r → lookup (is_at (R q)) (match_ordering r ((k, v) ∷ e ∷ es) ((e.0, v) ∷ es) (e ∷ insert_entry R es k v))
      ≡ cond (is_eq (R k q)) (Some v) (cond (is_eq (R q e.0)) (Some e.1) (lookup (is_at (R q)) es))) [
        | Less ↦ λ p. ap (λ (b : Bool). cond b (Some v) (cond (is_eq (R q e.0)) (Some e.1) (lookup (is_at (R q)) es))) ((eq_by_cmp_equiv o).symm q k)
        | Equal ↦ λ p.
            let same : is_eq (R q e.0) ≡ is_eq (R k q) = (eq_by_cmp_equiv o).symm q e.0 ∙ ap is_eq (sym (o.congr k e.0 q p)) in
            over e.1 (lookup (is_at (R q)) es) (is_eq (R q e.0)) ∙ ap (λ (b : Bool). cond b (Some v) (cond (is_eq (R q e.0)) (Some e.1) (lookup (is_at (R q)) es))) same
        | Greater ↦ λ p. behind e.1 _ _ e.0 (R q e.0) refl p (lookup-insert_entry es)
      ] refl
