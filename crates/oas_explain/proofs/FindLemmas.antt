-- Looking for one of several.
use Rattle.std.proofs.Common.{◌≡◌, ℕ, zero, suc, ◌+◌, ◌<◌, ◌≤◌, List, [], ◌∷◌, ◌++◌, length, take, drop, get_or, drop-cons, refl, sym, ap, subst, ◌∙◌, add-one, arith, inl, inr, true, false}
use Rattle.std.specs.Prelude.{leb, ◌⊎◌}
use Rattle.std.proofs.lemmas.List.{take-append-drop}
use Rattle.std.proofs.lemmas.Bool.Decides.{leb_tells}

any_default : {A : Type 0} (xs : List A) (i : ℕ) (a b : A) → i < length xs → get_or xs i a ≡ get_or xs i b
any_default [] i a b lt = absurd (omega (arith, lt))
any_default (x ∷ xs) zero a b lt = refl
any_default (x ∷ xs) (suc i) a b lt = any_default xs i a b (omega (arith, lt))

pub parts : {A : Type 0} (xs : List A) (i : ℕ) (d : A) → i < length xs → xs ≡ take i xs ++ get_or xs i d ∷ drop (i + 1) xs
parts xs i d lt = sym (take-append-drop i xs) ∙ ap (λ (ys : List _). take i xs ++ ys) (drop-cons xs i d lt ∙ ap (λ (k : ℕ). get_or xs i d ∷ drop k xs) (sym (add-one i)))

module _ {A : Type 0} (P : A → Type 0) (xs : List A) (i : ℕ) (e : A) (lt : i < length xs) (before : (k : ℕ) (d : A) → k < i → P (get_or xs k d)) (here : P (get_or xs i e)) where
  pick : (k : ℕ) (d : A) → k < i + 1 → ((leb i k ≡ true) × (i ≤ k)) ⊎ ((leb i k ≡ false) × (k < i)) → P (get_or xs k d)
  pick k d below (inl at) =
      let same : i ≡ k = omega (arith, at.1, below) in
      subst (λ (j : ℕ). P (get_or xs j d)) same (subst P (any_default xs i e d lt) here)
  pick k d below (inr on) = before k d on.1

  pub one_more : (k : ℕ) (d : A) → k < i + 1 → P (get_or xs k d)
  one_more k d below = pick k d below (leb_tells i k)
