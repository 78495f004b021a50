-- What a test of numbers says.
use Rattle.std.proofs.Common.{◌≡◌, ◌≢◌, ℕ, true, false, inl, inr}
use Rattle.std.specs.Prelude.{◌==◌}
use Rattle.std.proofs.lemmas.Bool.Decides.{eqb_tells}

pub equal : {a b : ℕ} → a ≡ b → (a == b) ≡ true
equal {a = a} {b = b} is = elim (eqb_tells a b) [ inl p ↦ p.0 | inr p ↦ absurd (p.1 is) ]

pub unequal : {a b : ℕ} → a ≢ b → (a == b) ≡ false
unequal {a = a} {b = b} isnt = elim (eqb_tells a b) [ inl p ↦ absurd (isnt p.1) | inr p ↦ p.0 ]
