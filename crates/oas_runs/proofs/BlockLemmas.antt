-- Rows of blocks.
use Rattle.std.specs.Prelude.{◌≡◌, List, [], ◌∷◌, ◌++◌, length, refl}
use Rattle.std.proofs.Common.{sym, ◌∙◌, ap, arith, append_assoc, append-nil, length-append}
use Rattle.oas_runs.specs.Blocks.{joined, NoneEmpty}

module _ {X : Type 0} where
  pub joined-more : (xss : List (List X)) (xs : List X) → joined (xss ++ xs ∷ []) ≡ joined xss ++ xs
  joined-more [] xs = append-nil xs
  joined-more (ys ∷ yss) xs = ap (λ (zs : List X). ys ++ zs) (joined-more yss xs) ∙ sym (append_assoc ys (joined yss) xs)

  -- one more item in the last block
  pub in_last : (full : List (List X)) (last news whole : List X) (x : X) → news ≡ last ++ x ∷ [] → joined full ++ last ≡ whole → joined full ++ news ≡ whole ++ x ∷ []
  in_last full last news whole x e v = ap (λ (xs : List X). joined full ++ xs) e ∙ sym (append_assoc (joined full) last (x ∷ [])) ∙ ap (λ (xs : List X). xs ++ x ∷ []) v

  -- and in a new one
  pub in_next : (full fulls : List (List X)) (last news whole : List X) (x : X) → fulls ≡ full ++ last ∷ [] → news ≡ x ∷ [] → joined full ++ last ≡ whole → joined fulls ++ news ≡ whole ++ x ∷ []
  in_next full fulls last news whole x f e v = (λ i. joined (f i) ++ e i) ∙ ap (λ (xs : List X). xs ++ x ∷ []) (joined-more full last ∙ v)

  -- the first block apart in place of the last
  pub turned : (full news : List (List X)) (first last whole : List X) → first ∷ news ≡ full ++ last ∷ [] → joined full ++ last ≡ whole → first ++ joined news ≡ whole
  turned full news first last whole e v = ap joined e ∙ joined-more full last ∙ v

  pub front-nil : (xs ys : List X) → xs ++ ys ≡ [] → xs ≡ []
  front-nil [] ys e = refl
  front-nil (x ∷ xs) ys e = let l = ap length e in absurd (omega (arith, l))

  pub back-nil : (xs ys : List X) → xs ++ ys ≡ [] → ys ≡ []
  back-nil [] ys e = e
  back-nil (x ∷ xs) ys e = let l = ap length e in absurd (omega (arith, l))

  pub none_empty-more : (xss : List (List X)) (xs : List X) → NoneEmpty xss → (xs ≡ [] → ⊥) → NoneEmpty (xss ++ xs ∷ [])
  none_empty-more [] xs h k = (k, tt)
  none_empty-more (ys ∷ yss) xs h k = (h.0, none_empty-more yss xs h.1 k)

  pub push-some : (xs ys : List X) (x : X) → ys ≡ xs ++ x ∷ [] → ys ≡ [] → ⊥
  push-some xs ys x e n = let l = ap length (sym e ∙ n) in omega (arith, l, length-append xs (x ∷ []))
