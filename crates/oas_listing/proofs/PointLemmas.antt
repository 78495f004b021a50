-- Putting points, one after another.
use Rattle.std.proofs.Common.{◌≡◌, ℕ, List, [], ◌∷◌, ◌++◌, flat_map, sym, subst}
use Rattle.oas_num.specs.Writing.{Puts, PutsPrefix}
use Rattle.oas_num.proofs.PuttingLemmas.{PutSoFar, begins, fails_at, all_put, ◌▸◌}
use Rattle.oas_ring.specs.declared.point.Point.{Point}
use Rattle.oas_listing.specs.Listing.{pair}

abbrev pub fields : List Point → List ℕ
fields ps = flat_map (λ p. 32 ∷ pair p) ps

module _ {K : Type 0} {given : K → List ℕ → K → Type 0} {failures : K → ℕ} where
  pub points_begin : (all left : List Point) (s : K) → left ≡ all → PutSoFar given failures (fields all) (fields left) s s
  points_begin all left s is = subst (λ (ps : List Point). PutSoFar given failures (fields all) (fields ps) s s) (sym is) (begins (fields all) s)

  module _ {old mid : K} (all before after : List Point) (p : Point) (is : before ≡ p ∷ after) (left : PutSoFar given failures (fields all) (fields before) old mid) where
    split : PutSoFar given failures (fields all) ((32 ∷ pair p) ++ fields after) old mid
    split = subst (λ (ps : List Point). PutSoFar given failures (fields all) (fields ps) old mid) is left

    pub point_fails : {new : K} → PutsPrefix given failures mid (32 ∷ pair p) new → PutsPrefix given failures old (fields all) new
    point_fails q = fails_at _ split q

    pub point_put : {new : K} → Puts given failures mid (32 ∷ pair p) new → PutSoFar given failures (fields all) (fields after) old new
    point_put q = split ▸ q

  pub points_end : {old now : K} (all left : List Point) → PutSoFar given failures (fields all) (fields left) old now → left ≡ [] → Puts given failures old (fields all) now
  points_end {old = old} {now = now} all left s none = all_put (subst (λ (ps : List Point). PutSoFar given failures (fields all) (fields ps) old now) none s)
