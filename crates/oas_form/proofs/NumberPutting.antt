-- Putting a number, one group after another, and counting these.
use Rattle.std.proofs.Common.{◌≡◌, ℕ, zero, suc, ◌+◌, ◌*◌, ◌/◌, ◌%◌, ◌^◌, ◌<◌, ◌≤◌, List, [], ◌∷◌, refl, subst, arith}
use Rattle.std.proofs.Math.Nat.{pow-suc}
use Rattle.std.proofs.lemmas.Nat.{div_below}
use Rattle.std.proofs.lemmas.Bool.{lt-ltb, le-ltb}
use Rattle.oas_num.specs.Writing.{Puts, PutsPrefix, groups, shortest}
use Rattle.oas_form.specs.Putting.{PutsAll}
use Rattle.oas_form.proofs.PuttingLemmas.{PutSoFar, begins, ends, fails_at, last_fails, ◌▸◌}

abbrev pub group_of : ℕ → ℕ
group_of rest = rest % 128 + 128

-- the groups of a number of at least 128: the lowest, and those of the rest
record HasMore (fuel rest : ℕ) : Type 0 where
  pub left : ℕ
  pub some : 0 < left
  pub fewer : suc left ≡ fuel
  pub below : rest / 128 < 128 ^ left
  pub is : groups fuel rest ≡ group_of rest ∷ groups left (rest / 128)

has_more : (fuel rest : ℕ) → 0 < fuel → rest < 128 ^ fuel → 128 ≤ rest → HasMore fuel rest
has_more zero rest some lt le = absurd (omega arith)
has_more (suc zero) rest some lt le = absurd (omega arith)
has_more (suc (suc k)) rest some lt le =
    let p : 128 ^ suc (suc k) ≡ 128 ^ suc k * 128 = pow-suc 128 (suc k) in
    record {
      left = suc k;
      some = omega arith;
      fewer = refl;
      below = div_below rest 128 (128 ^ suc k) (omega arith) (rw p at lt);
      is = rw (le-ltb rest 128 le) refl;
    }

has_one : (fuel rest : ℕ) → 0 < fuel → rest < 128 → groups fuel rest ≡ rest ∷ []
has_one zero rest some lt = absurd (omega arith)
has_one (suc k) rest some lt = rw (lt-ltb rest 128 lt) refl

module _ {K : Type 0} (given : K → List ℕ → K → Type 0) (failures : K → ℕ) where
  -- this many groups were put, and those of the rest are left
  pub record NumberLeft (value rest : ℕ) (old now : K) (count : ℕ) : Type 0 where
    pub fuel : ℕ
    pub some : 0 < fuel
    pub few : fuel + count ≡ 10
    pub below : rest < 128 ^ fuel
    pub so_far : PutSoFar given failures (shortest value) (groups fuel rest) old now count

module _ {K : Type 0} {given : K → List ℕ → K → Type 0} {failures : K → ℕ} where
  pub number_starts : (s : K) (value : ℕ) → value < 2 ^ 64 → NumberLeft given failures value value s s 0
  unfolding shortest
  number_starts s value lt = record { fuel = 10; some = omega arith; few = refl; below = omega arith; so_far = begins s (shortest value) }

  module _ {value rest count : ℕ} {old mid : K} (m : NumberLeft given failures value rest old mid count) where
    left_is : {bytes : List ℕ} → groups m.fuel rest ≡ bytes → PutSoFar given failures (shortest value) bytes old mid count
    left_is e = subst (λ (left : List ℕ). PutSoFar given failures (shortest value) left old mid count) e m.so_far

    pub group_put : (new : K) → 128 ≤ rest → Puts given failures mid (group_of rest ∷ []) new → NumberLeft given failures value (rest / 128) old new (count + 1)
    group_put new le put =
        let g = has_more m.fuel rest m.some m.below le in
        record {
          fuel = g.left;
          some = g.some;
          few = omega (arith, g.fewer, m.few);
          below = g.below;
          so_far = ◌▸◌ {a = group_of rest ∷ []} {left = groups g.left (rest / 128)} (left_is g.is) (record { puts = put; count_is = refl });
        }

    pub group_fails : (new : K) → 128 ≤ rest → PutsPrefix given failures mid (group_of rest ∷ []) new → PutsPrefix given failures old (shortest value) new
    group_fails new le put =
        let g = has_more m.fuel rest m.some m.below le in
        fails_at {a = group_of rest ∷ []} (groups g.left (rest / 128)) (left_is g.is) put

    pub last_put : (new : K) → rest < 128 → Puts given failures mid (rest ∷ []) new → PutsAll given failures old (shortest value) (count + 1) new
    last_put new lt put = ends {a = rest ∷ []} (left_is (has_one m.fuel rest m.some lt)) (record { puts = put; count_is = refl })

    pub last_group_fails : (new : K) → rest < 128 → PutsPrefix given failures mid (rest ∷ []) new → PutsPrefix given failures old (shortest value) new
    last_group_fails new lt put = last_fails {a = rest ∷ []} (left_is (has_one m.fuel rest m.some lt)) put
