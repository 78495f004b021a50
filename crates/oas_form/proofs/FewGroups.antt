-- Numbers of at most four groups, which are put at once.
use Rattle.std.proofs.Common.{◌≡◌, ℕ, suc, ◌/◌, ◌^◌, ◌<◌, ◌≤◌, List, [], ◌∷◌, length, refl, sym, subst, arith}
use Rattle.std.proofs.lemmas.Bool.{lt-ltb, le-ltb}
use Rattle.oas_num.specs.Writing.{Puts, PutsPrefix, groups, shortest}
use Rattle.oas_form.specs.Putting.{PutsAll}
use Rattle.oas_form.proofs.NumberPutting.{group_of}

-- the lowest group, and those of the rest
more : (k n a : ℕ) {left : List ℕ} → 128 ≤ n → a ≡ group_of n → groups k (n / 128) ≡ left → groups (suc k) n ≡ a ∷ left
more k n a le e is = rw (le-ltb n 128 le) (λ i. sym e i ∷ is i)

last : (k n : ℕ) → n < 128 → groups (suc k) n ≡ n ∷ []
last k n lt = rw (lt-ltb n 128 lt) refl

pub one_group : (n : ℕ) → n < 2 ^ 7 → shortest n ≡ n ∷ []
unfolding shortest
one_group n lt = last 9 n lt

pub two_groups : (n a : ℕ) → 2 ^ 7 ≤ n → n < 2 ^ 14 → a ≡ group_of n → shortest n ≡ a ∷ n / 128 ∷ []
unfolding shortest
two_groups n a le lt e = more 9 n a le e (last 8 (n / 128) (omega arith))

pub three_groups : (n a b : ℕ) → 2 ^ 14 ≤ n → n < 2 ^ 21 → a ≡ group_of n → b ≡ group_of (n / 128) → shortest n ≡ a ∷ b ∷ n / 128 / 128 ∷ []
unfolding shortest
three_groups n a b le lt e f = more 9 n a (omega arith) e (more 8 (n / 128) b (omega arith) f (last 7 (n / 128 / 128) (omega arith)))

pub four_groups : (n a b d : ℕ) → 2 ^ 21 ≤ n → n < 2 ^ 28 → a ≡ group_of n → b ≡ group_of (n / 128) → d ≡ group_of (n / 128 / 128)
    → shortest n ≡ a ∷ b ∷ d ∷ n / 128 / 128 / 128 ∷ []
unfolding shortest
four_groups n a b d le lt e f h =
    more 9 n a (omega arith) e (more 8 (n / 128) b (omega arith) f (more 7 (n / 128 / 128) d (omega arith) h (last 6 (n / 128 / 128 / 128) (omega arith))))

module _ {K : Type 0} {given : K → List ℕ → K → Type 0} {failures : K → ℕ} {old new : K} where
  pub all_at_once : {whole bytes : List ℕ} → whole ≡ bytes → Puts given failures old bytes new → PutsAll given failures old whole (length bytes) new
  all_at_once {bytes = bytes} e p = subst (λ (all : List ℕ). PutsAll given failures old all (length bytes) new) (sym e) (record { puts = p; count_is = refl })

  pub fails_at_once : {whole bytes : List ℕ} → whole ≡ bytes → PutsPrefix given failures old bytes new → PutsPrefix given failures old whole new
  fails_at_once e p = subst (λ (all : List ℕ). PutsPrefix given failures old all new) (sym e) p
